-- `handle_include_module`: it stays within every choice that is closed but for the base, and settles its module.
use Rattle.std.proofs.Common.{◌≡◌, ℕ, ◌-◌, ◌*◌, ◌<◌, Bool, true, false, not, ◌⊎◌, List, [], ◌∷◌, length, get_or, sym, refl, ap, ◌∙◌, subst, inl, inr, eq-eqb}
use mathlib.Core.Bool.{false≢true}
use Rattle.determine_side_effects.specs.graph_crate.Check.{Graph}
use Rattle.determine_side_effects.specs.graph_access_crate.Names.{declaring_statements, only}
use Rattle.determine_side_effects.specs.graph_access_crate.Words.{symbol_of, normal}
use Rattle.determine_side_effects.specs.facts_crate.Facts.{module_fact, statement_fact}
use Rattle.determine_side_effects.specs.Effects.{last_verdicts}
use Rattle.keep_rules.specs.Rules.{dev_namespace}
use Rattle.keep_record.specs.Lines.{elem}
use Rattle.answer_rows.specs.declared.Row.TheVariants.{NamespaceReason}
use Rattle.answer_rows.specs.Shown.{shows, only_if}
use Rattle.rust_values.specs.Values.{Pair, pair, In}
use Rattle.rust_engine.specs.Context.{Context, WorkItem, module_item, symbol_item, statement_item, rest, set_module, set_changed, set_deferred, when as when_do}
use Rattle.rust_engine.specs.Tables.{owner_of}
use Rattle.rust_engine.specs.Engine.{Orders, Reorders, drain_deferred, module_body, handle_include_module}
use Rattle.rust_engine.proofs.Kept.{fact_of_item, AllGiven, KeptStatement, Kept, Forwarded, Settled, Grows}
use Rattle.rust_engine.proofs.Theorem.{Over, ClosedHere, Within, HasRows, rows_refl, rows_trans, good_over, Onward}
use Rattle.rust_values.proofs.Members.{elem_in, in_elem, in_at}
use Rattle.rust_engine.proofs.Asking.{grown_rows, of_choice, of_context, Fit, fit_grown, Grown, grown_refl}
use Rattle.rust_engine.proofs.Modules.{ModuleAsks, asks-module}
use Rattle.rust_engine.proofs.Handling.{Links, quiet, over, queued_kept, grown_grows, settle-by}
use Rattle.rust_engine.proofs.Waiting.{in_waiting, in_others, marked, asks-joined, joined-within}

module _ (g : Graph) where
  abbrev v : List ℕ
  v = last_verdicts g

  -- the rows of a context in which the module's bit is set
  marked_rows : (m : ℕ) (c : Context) → HasRows c (marked g m c)
  unfolding set_deferred set_changed set_module
  marked_rows m c = record { has_modules = λ n q. inr q; has_statements = λ p q. q; has_used = λ s q. q; has_external = λ s q. q; has_reasons = λ p q. q }

  pub joined_rows : (m : ℕ) (c : Context) → HasRows c (drain_deferred g m (set_changed true (set_module m c)))
  joined_rows m c =
      let j = drain_deferred g m (set_changed true (set_module m c)) in
      rows_trans c (marked g m c) j (marked_rows m c) (grown_rows g v (marked g m c) j (asks-joined g m c).grown)

  pub module_rows : (order : Orders) → Reorders order → (m : ℕ) (c : Context) → HasRows c (handle_include_module g v order m c)
  unfolding handle_include_module
  module_rows order o m c = go (normal g m) (elem m c.modules) (not (quiet g m))
    where
      j : Context
      j = drain_deferred g m (set_changed true (set_module m c))

      go : (a b q : Bool) → HasRows c (elim a [ true ↦ elim b [ true ↦ c | false ↦ elim q [ true ↦ module_body g v order m j | false ↦ j ] ] | false ↦ c ])
      go true true q = rows_refl c
      go true false true =
          rows_trans c j (module_body g v order m j) (joined_rows m c) (grown_rows g v j (module_body g v order m j) (asks-module g order o m j).grown)
      go true false false = joined_rows m c
      go false b q = rows_refl c

  dev_shown : (m : ℕ) → dev_namespace g m ≡ true → elem (8 * m) (shows g NamespaceReason (module_fact m)) ≡ true
  unfolding shows only_if elem
  dev_shown m e = rw (e, only_if, eq-eqb (8 * m) (8 * m) refl) refl

  module _ (links : Links g) where
    -- its body runs only where the module was not included, so not in the base
    pub module-within : (S : Over) → ClosedHere g S → (order : Orders) → Reorders order → (m : ℕ) (c : Context) → HasRows S.base c
        → S.choice (module_fact m) → Within g S c → Within g S (handle_include_module g v order m c)
    unfolding handle_include_module
    module-within S k order o m c r h w = go (normal g m) (elem m c.modules) refl (not (quiet g m)) refl
      where
        j : Context
        j = drain_deferred g m (set_changed true (set_module m c))

        within-j : Within g S j
        within-j = joined-within g m c S k h w

        fresh : elem m c.modules ≡ false → In m S.base.modules → ⊥
        fresh e q = false≢true (sym e ∙ in_elem m c.modules (r.has_modules m q))

        body : elem m c.modules ≡ false → not (quiet g m) ≡ true → Within g S (module_body g v order m j)
        body e q =
            (asks-module g order o m j).within S k
            (links.module_from (of_choice g v S) m (λ t. inr (inl (refl, (module_fact m, (h, fresh e), dev_shown m t))))
            (λ i u. k.by_K2_to_K14 (module_fact m) i h (fresh e) u) q)
            within-j

        go : (a b : Bool) → elem m c.modules ≡ b → (q : Bool) → not (quiet g m) ≡ q
            → Within g S (elim a [ true ↦ elim b [ true ↦ c | false ↦ elim q [ true ↦ module_body g v order m j | false ↦ j ] ] | false ↦ c ])
        go true true e q t = w
        go true false e true t = body e t
        go true false e false t = within-j
        go false b e q t = w

    module _ (taken : List ℕ) (base : Context) (uses : List Pair) (order : Orders) (o : Reorders order) (c : Context) (m : ℕ)
        (is : List WorkItem)
        (e : c.pending ≡ module_item m ∷ is) (w : Within g (good_over g base) c) (h : Settled g v taken base uses c) where
      module_normal : normal g m ≡ true
      module_normal = (w.queued (module_item m) (subst (λ xs. In (module_item m) xs) (sym e) (inl refl))).1

      m-again : In m c.modules → Onward g v taken base uses c (rest is c)
      unfolding rest
      m-again has =
          record {
            now_handled = uses;
            settled =
                settle-by g taken base uses uses c (rest is c) h gr (λ n q. inl q) (λ a k q. inl q) (λ s x q. inl q) same (λ p q. q)
                (λ b q n j u t. gr (statement_fact b j) (h.swept-done b q n j u t));
            grows = gr;
          }
        where
          same : HasRows c (rest is c)
          same = record { has_modules = λ n q. q; has_statements = λ p q. q; has_used = λ s q. q; has_external = λ s q. q; has_reasons = λ p q. q }

          queue : (j : WorkItem) → (j ≡ module_item m) ⊎ In j is → Kept g v taken uses (rest is c) (fact_of_item j)
          queue j (inl q) = subst (λ z. Kept g v taken uses (rest is c) (fact_of_item z)) (sym q) (inl has)
          queue j (inr q) = queued_kept g taken uses (rest is c) j q

          onto : (a k : ℕ) → KeptStatement g v taken c a k → KeptStatement g v taken (rest is c) a k
          onto a k (inl q) = inl q
          onto a k (inr q) = queue (statement_item a k) (subst (λ xs. In (statement_item a k) xs) e q)

          gr : Grows g v taken uses c uses (rest is c)
          gr =
              over g taken uses uses c (rest is c) (λ n q. q) (λ a k q. q) (λ s x q. q) (λ n q. q) (λ j q. queue j (subst (λ xs. In j xs) e q))
              (λ s f. record { joins = λ q k u. onto (owner_of g s) (only (get_or (declaring_statements (symbol_of g s)) k [])) (f.joins q k u); waits = f.waits })

      -- for the first time
      module _ (fresh : In m c.modules → ⊥) where
        abbrev b : Context
        b = rest is c

        abbrev y : Context
        y = drain_deferred g m (set_changed true (set_module m b))

        marked-fit : Fit g v (marked g m b)
        unfolding rest set_deferred set_changed set_module
        marked-fit = record { swept-done = λ n q z j u t. onto n j (h.swept-done n q z j u t); normals = normals }
          where
            onto : (a k : ℕ) → KeptStatement g v taken c a k → KeptStatement g v taken (marked g m b) a k
            onto a k (inl q) = inl q
            onto a k (inr q) = queue a k (subst (λ xs. In (statement_item a k) xs) e q)
              where
                is_module : WorkItem → Bool
                is_module (module_item n) = true
                is_module (symbol_item n x) = false
                is_module (statement_item n x) = false

                queue : (a k : ℕ) → (statement_item a k ≡ module_item m) ⊎ In (statement_item a k) is → KeptStatement g v taken (marked g m b) a k
                queue a k (inl q) = absurd (false≢true (ap is_module q))
                queue a k (inr q) = inr q

            normals : (n : ℕ) → (n ≡ m) ⊎ In n c.modules → normal g n ≡ true
            normals n (inl q) = subst (λ x. normal g x ≡ true) (sym q) module_normal
            normals n (inr q) = (w.of_modules n q).1

        j-grown : Grown g v (marked g m b) y
        j-grown = (asks-joined g m b).grown

        y-fit : Fit g v y
        y-fit = fit_grown g v (marked g m b) y j-grown marked-fit

        y-modules : y.modules ≡ m ∷ c.modules
        unfolding rest set_deferred set_changed set_module
        y-modules = j-grown.modules_same

        y-grows : Grows g v taken uses c uses y
        unfolding rest set_deferred set_changed set_module
        y-grows =
            over g taken uses uses c y (λ n q. subst (λ xs. In n xs) (sym y-modules) (inr q)) (λ a k q. st a k q) (λ s x q. q) j-grown.bailouts-sub
            (λ j q. queue j (subst (λ xs. In j xs) e q)) forwarded
          where
            st : (a k : ℕ) → In (pair a k) c.statements → In (pair a k) y.statements
            st a k q = subst (λ xs. In (pair a k) xs) (sym j-grown.statements-same) q

            queue : (j : WorkItem) → (j ≡ module_item m) ⊎ In j is → Kept g v taken uses y (fact_of_item j)
            queue j (inl q) = subst (λ z. Kept g v taken uses y (fact_of_item z)) (sym q) (inl (subst (λ xs. In m xs) (sym y-modules) (inl refl)))
            queue j (inr q) = queued_kept g taken uses y j (j-grown.pending-sub j q)

            onto : (a k : ℕ) → KeptStatement g v taken c a k → KeptStatement g v taken y a k
            onto a k (inl q) = inl (st a k q)
            onto a k (inr q) = queue (statement_item a k) (subst (λ xs. In (statement_item a k) xs) e q)

            -- K1: those that waited for the module
            came : (s : ℕ) → owner_of g s ≡ m → In s c.deferred → (k : ℕ) → k < length (declaring_statements (symbol_of g s))
                → KeptStatement g v taken y (owner_of g s) (only (get_or (declaring_statements (symbol_of g s)) k []))
            came s q r k u =
                (asks-joined g m b).keeps taken uses y marked-fit (grown_refl g v y) s (in_waiting g m s c.deferred r q)
                (subst (λ x. normal g x ≡ true) (sym q) module_normal)
                (get_or (declaring_statements (symbol_of g s)) k []) (in_at (declaring_statements (symbol_of g s)) [] k u)

            forwarded : (s : ℕ) → Forwarded g v taken c s → Forwarded g v taken y s
            forwarded s f = record { joins = λ q k u. joins (subst (λ xs. In (owner_of g s) xs) y-modules q) k u; waits = waits }
              where
                joins : (owner_of g s ≡ m) ⊎ In (owner_of g s) c.modules → (k : ℕ) → k < length (declaring_statements (symbol_of g s))
                    → KeptStatement g v taken y (owner_of g s) (only (get_or (declaring_statements (symbol_of g s)) k []))
                joins (inl q) k u = came s q (f.waits (λ r. fresh (subst (λ x. In x c.modules) q r))) k u
                joins (inr q) k u = onto (owner_of g s) (only (get_or (declaring_statements (symbol_of g s)) k [])) (f.joins q k u)

                waits : (In (owner_of g s) y.modules → ⊥) → In s y.deferred
                waits n =
                    j-grown.deferred-sub s (in_others g m s c.deferred (f.waits (λ q. n (subst (λ xs. In (owner_of g s) xs) (sym y-modules) (inr q))))
                    (λ q. n (subst (λ xs. In (owner_of g s) xs) (sym y-modules) (inl q))))

        -- and its body, unless it is the runtime without effects
        to_end : (z : Context) → Grown g v y z → (not (quiet g m) ≡ true → ModuleAsks g m (of_context g v taken uses z)) → Onward g v taken base uses c z
        unfolding rest set_deferred set_changed set_module
        to_end z gr asked = record { now_handled = uses; settled = settled; grows = all }
          where
            all : Grows g v taken uses c uses z
            all f q = grown_grows g taken uses y z gr f (y-grows f q)

            new : (n : ℕ) → (n ≡ m) ⊎ In n c.modules → In n c.modules
                ⊎ (AllGiven g v (Kept g v taken uses z) (module_fact n) × (dev_namespace g n ≡ true → In (pair n 1) z.reasons))
            new n (inl q) =
                inr (subst (λ x. AllGiven g v (Kept g v taken uses z) (module_fact x) × (dev_namespace g x ≡ true → In (pair x 1) z.reasons)) (sym q)
                (links.module_to (of_context g v taken uses z) m asked))
            new n (inr q) = inl q

            rows : HasRows c z
            rows =
                let r = rows_trans b y z (joined_rows m b) (grown_rows g v y z gr) in
                record {
                  has_modules = r.has_modules;
                  has_statements = r.has_statements;
                  has_used = r.has_used;
                  has_external = r.has_external;
                  has_reasons = r.has_reasons;
                }

            settled : Settled g v taken base uses z
            settled =
                settle-by g taken base uses uses c z h all (λ n q. new n (subst (λ xs. In n xs) (gr.modules_same ∙ y-modules) q))
                (λ a k q. inl (subst (λ xs. In (pair a k) xs) (gr.statements-same ∙ j-grown.statements-same) q)) (λ s x q. inl q)
                rows (λ p q. gr.json-sub p (j-grown.json-sub p q)) (fit_grown g v y z gr y-fit).swept-done

        whole-module : (q : Bool) → not (quiet g m) ≡ q → Onward g v taken base uses c (elim q [ true ↦ module_body g v order m y | false ↦ y ])
        whole-module true q =
            let a = asks-module g order o m y in to_end (module_body g v order m y) a.grown
            (λ r. a.keeps taken uses (module_body g v order m y) y-fit (grown_refl g v (module_body g v order m y)))
        whole-module false q = to_end y (grown_refl g v y) (λ r. absurd (false≢true (sym q ∙ r)))

      pub module-settles : Onward g v taken base uses c (handle_include_module g v order m (rest is c))
      unfolding handle_include_module rest
      module-settles = go (normal g m) module_normal (elem m c.modules) refl
        where
          go : (a : Bool) → a ≡ true → (q : Bool) → elem m c.modules ≡ q
              → Onward g v taken base uses c (elim a [
                | true ↦ elim q [
                  | true ↦ rest is c
                  | false ↦ when_do (not (quiet g m)) (module_body g v order m)
                      (drain_deferred g m (set_changed true (set_module m (rest is c))))
                ]
                | false ↦ rest is c
              ])
          go true r true q = m-again (elem_in m c.modules q)
          go true r false q = whole-module (λ i. false≢true (sym q ∙ in_elem m c.modules i)) (not (quiet g m)) refl
          go false r q z = absurd (false≢true r)
