-- `handle_include_statement`: it stays within every choice that is closed but for the base, and settles its statement.
use Rattle.std.proofs.Common.{◌≡◌, ℕ, ◌-◌, Bool, true, false, ◌&&◌, ◌||◌, eqb, ◌⊎◌, List, [], ◌∷◌, get_or, sym, refl, ap, ◌∙◌, subst, inl, inr, eq-eqb, eqb-true}
use mathlib.Core.Bool.{false≢true}
use Rattle.determine_side_effects.specs.graph_crate.Check.{Graph}
use Rattle.determine_side_effects.specs.graph_access_crate.Names.{declaring_statements, only}
use Rattle.determine_side_effects.specs.graph_access_crate.Words.{symbol_of, normal}
use Rattle.determine_side_effects.specs.facts_crate.Facts.{statement_fact, Good}
use Rattle.determine_side_effects.specs.Effects.{last_verdicts}
use Rattle.rust_values.specs.Values.{Pair, pair, has_pair, In}
use Rattle.rust_engine.specs.Context.{Context, WorkItem, statement_item, rest, set_statement}
use Rattle.rust_engine.specs.Tables.{owner_of}
use Rattle.rust_engine.specs.Engine.{handle_include_statement}
use Rattle.rust_engine.proofs.Kept.{fact_of_item, AllGiven, KeptStatement, Kept, Forwarded, Settled, Grows}
use Rattle.rust_engine.proofs.Theorem.{Over, ClosedHere, Within, HasRows, rows_refl, rows_trans, good_over, Onward}
use Rattle.rust_engine.proofs.Asking.{grown_rows, of_choice, of_context, Fit, fit_grown, grown_refl}
use Rattle.rust_engine.proofs.Statements.{statement_body, asks_statement}
use Rattle.rust_engine.proofs.Handling.{Links, over, queued_kept, grown_grows, settle-by}

-- a statement that is included, or not
pub pair_in : (a b : ℕ) (ps : List Pair) → has_pair a b ps ≡ true → In (pair a b) ps
unfolding has_pair
pair_in a b [] e = absurd (false≢true e)
pair_in a b (p ∷ ps) e = go (eqb a p.first) refl (eqb b p.second) refl e (λ q. pair_in a b ps q)
  where
    both : a ≡ p.first → b ≡ p.second → pair a b ≡ p
    both q r = ap (λ z. pair z b) q ∙ ap (λ z. pair p.first z) r

    go : (q : Bool) → eqb a p.first ≡ q → (r : Bool) → eqb b p.second ≡ r → ((q && r) || has_pair a b ps) ≡ true
        → (has_pair a b ps ≡ true → In (pair a b) ps) → (pair a b ≡ p) ⊎ In (pair a b) ps
    go true q true r t more = inl (both (eqb-true a p.first q) (eqb-true b p.second r))
    go true q false r t more = inr (more t)
    go false q r z t more = inr (more t)

pub in_pair : (a b : ℕ) (ps : List Pair) → In (pair a b) ps → has_pair a b ps ≡ true
unfolding has_pair
in_pair a b [] h = absurd h
in_pair a b (p ∷ ps) (inl e) = rw (eq-eqb a p.first (ap (λ q. q.first) e), eq-eqb b p.second (ap (λ q. q.second) e)) refl
in_pair a b (p ∷ ps) (inr h) = go (eqb a p.first && eqb b p.second) (in_pair a b ps h)
  where
    go : (q : Bool) → has_pair a b ps ≡ true → (q || has_pair a b ps) ≡ true
    go true r = refl
    go false r = r

module _ (g : Graph) where
  abbrev v : List ℕ
  v = last_verdicts g

  set-rows : (m i : ℕ) (c : Context) → HasRows c (set_statement m i c)
  unfolding set_statement
  set-rows m i c = record { has_modules = λ n q. q; has_statements = λ p q. inr q; has_used = λ s q. q; has_external = λ s q. q; has_reasons = λ p q. q }

  pub statement_rows : (m i : ℕ) (c : Context) → HasRows c (handle_include_statement g v m i c)
  unfolding handle_include_statement
  statement_rows m i c = go (normal g m) (has_pair m i c.statements)
    where
      s : Context
      s = set_statement m i c

      go : (a b : Bool) → HasRows c (elim a [ true ↦ elim b [ true ↦ c | false ↦ statement_body g m i s ] | false ↦ c ])
      go true true = rows_refl c
      go true false = rows_trans c s (statement_body g m i s) (set-rows m i c) (grown_rows g v s (statement_body g m i s) (asks_statement g m i s).grown)
      go false b = rows_refl c

  module _ (links : Links g) where
    -- its body runs only where the statement was not included, so not in the base
    pub statement-within : (S : Over) → ClosedHere g S → (m i : ℕ) (c : Context) → HasRows S.base c → S.choice (statement_fact m i) → Within g S c
        → Within g S (handle_include_statement g v m i c)
    unfolding handle_include_statement set_statement
    statement-within S k m i c r h w = go (normal g m) (has_pair m i c.statements) refl
      where
        there : (a b : ℕ) → (pair a b ≡ pair m i) ⊎ In (pair a b) c.statements → S.choice (statement_fact a b)
        there a b (inl q) = subst (λ p. S.choice (statement_fact p.first p.second)) (sym q) h
        there a b (inr q) = w.of_statements a b q

        marked : Within g S (set_statement m i c)
        marked =
            record {
              queued = w.queued;
              of_modules = w.of_modules;
              of_statements = there;
              of_deferred = w.of_deferred;
              of_bailouts = w.of_bailouts;
              of_used = w.of_used;
              of_external = w.of_external;
              of_json = w.of_json;
              of_reasons = w.of_reasons;
            }

        fresh : has_pair m i c.statements ≡ false → In (pair m i) S.base.statements → ⊥
        fresh e q = false≢true (sym e ∙ in_pair m i c.statements (r.has_statements (pair m i) q))

        go : (a b : Bool) → has_pair m i c.statements ≡ b
            → Within g S (elim a [ true ↦ elim b [ true ↦ c | false ↦ statement_body g m i (set_statement m i c) ] | false ↦ c ])
        go true true e = w
        go true false e =
            (asks_statement g m i (set_statement m i c)).within S k
            (links.statement_from (of_choice g v S) m i (λ j u. k.by_K2_to_K14 (statement_fact m i) j h (fresh e) u)) marked
        go false b e = w

    -- where the Rust's guard on a statement's module always passes: a good statement's module is normal
    module _ (own : (m i : ℕ) → Good g (statement_fact m i) → normal g m ≡ true) (taken : List ℕ) (base : Context) (uses : List Pair) (c : Context) (m i : ℕ)
        (is : List WorkItem)
        (e : c.pending ≡ statement_item m i ∷ is) (w : Within g (good_over g base) c) (h : Settled g v taken base uses c) where
      is_normal : normal g m ≡ true
      is_normal = own m i (w.queued (statement_item m i) (subst (λ xs. In (statement_item m i) xs) (sym e) (inl refl)))

      -- the queue without it, to a context that has its bit
      popped-to : (b : Context) → b.modules ≡ c.modules → b.deferred ≡ c.deferred → b.bailouts ≡ c.bailouts → b.pending ≡ is
          → ((a k : ℕ) → In (pair a k) c.statements → In (pair a k) b.statements) → In (pair m i) b.statements → Grows g v taken uses c uses b
      popped-to b em ed eb ep st has =
          over g taken uses uses c b (λ n q. subst (λ xs. In n xs) (sym em) q) st (λ s x q. q) (λ n q. subst (λ xs. In n xs) (sym eb) q)
          (λ j q. queue j (subst (λ xs. In j xs) e q)) forwarded
        where
          queue : (j : WorkItem) → (j ≡ statement_item m i) ⊎ In j is → Kept g v taken uses b (fact_of_item j)
          queue j (inl q) = subst (λ z. Kept g v taken uses b (fact_of_item z)) (sym q) (inl has)
          queue j (inr q) = queued_kept g taken uses b j (subst (λ xs. In j xs) (sym ep) q)

          onto : (a k : ℕ) → KeptStatement g v taken c a k → KeptStatement g v taken b a k
          onto a k (inl q) = inl (st a k q)
          onto a k (inr q) = queue (statement_item a k) (subst (λ xs. In (statement_item a k) xs) e q)

          forwarded : (s : ℕ) → Forwarded g v taken c s → Forwarded g v taken b s
          forwarded s f =
              record {
                joins = λ q k u. onto (owner_of g s) (only (get_or (declaring_statements (symbol_of g s)) k [])) (f.joins (subst (λ xs. In (owner_of g s) xs) em q) k u);
                waits = λ n. subst (λ xs. In s xs) (sym ed) (f.waits (λ q. n (subst (λ xs. In (owner_of g s) xs) (sym em) q)));
              }

      again : In (pair m i) c.statements → Onward g v taken base uses c (rest is c)
      unfolding rest
      again has =
          let gr = popped-to (rest is c) refl refl refl refl (λ a k q. q) has in
          record {
            now_handled = uses;
            settled =
                settle-by g taken base uses uses c (rest is c) h gr (λ n q. inl q) (λ a k q. inl q) (λ s x q. inl q) same (λ p q. q)
                (λ b q n j u t. gr (statement_fact b j) (h.swept-done b q n j u t));
            grows = gr;
          }
        where
          same : HasRows c (rest is c)
          same = record { has_modules = λ n q. q; has_statements = λ p q. q; has_used = λ s q. q; has_external = λ s q. q; has_reasons = λ p q. q }

      first : Onward g v taken base uses c (statement_body g m i (set_statement m i (rest is c)))
      unfolding rest set_statement
      first =
          let b = set_statement m i (rest is c) in
          let gr = popped-to b refl refl refl refl (λ a k q. inr q) (inl refl) in
          let a = asks_statement g m i b in
          let f : Fit g v b = record { swept-done = λ n q z j u t. gr (statement_fact n j) (h.swept-done n q z j u t); normals = λ n q. (w.of_modules n q).1 } in
          let z = statement_body g m i b in
          let rs = grown_rows g v b z a.grown in
          let all : Grows g v taken uses c uses z = λ x q. grown_grows g taken uses b z a.grown x (gr x q) in
          record {
            now_handled = uses;
            settled =
                settle-by g taken base uses uses c z h all (λ n q. inl (subst (λ xs. In n xs) a.grown.modules_same q))
                (λ n j q. new n j (links.statement_to (of_context g v taken uses z) m i (a.keeps taken uses z f (grown_refl g v z)))
                (subst (λ xs. In (pair n j) xs) a.grown.statements-same q)) (λ s x q. inl q)
                (record {
                  has_modules = rs.has_modules;
                  has_statements = λ p q. rs.has_statements p
                      (inr q);
                  has_used = rs.has_used;
                  has_external = rs.has_external;
                  has_reasons = rs.has_reasons;
                })
                a.grown.json-sub (fit_grown g v b z a.grown f).swept-done;
            grows = all;
          }
        where
          new : (n j : ℕ) → AllGiven g v (Kept g v taken uses (statement_body g m i (set_statement m i (rest is c)))) (statement_fact m i) → (pair n j ≡ pair m i)
              ⊎ In (pair n j) c.statements
              → In (pair n j) c.statements ⊎ AllGiven g v (Kept g v taken uses (statement_body g m i (set_statement m i (rest is c)))) (statement_fact n j)
          new n j a (inl q) =
              inr (subst (λ p. AllGiven g v (Kept g v taken uses (statement_body g m i (set_statement m i (rest is c)))) (statement_fact p.first p.second))
              (sym q) a)
          new n j a (inr q) = inl q

      pub statement-settles : Onward g v taken base uses c (handle_include_statement g v m i (rest is c))
      unfolding handle_include_statement rest
      statement-settles = go (normal g m) is_normal (has_pair m i c.statements) refl
        where
          go : (a : Bool) → a ≡ true → (b : Bool) → has_pair m i c.statements ≡ b
              → Onward g v taken base uses c (elim a [
                | true ↦ elim b
                    [ true ↦ rest is c | false ↦ statement_body g m i (set_statement m i (rest is c)) ]
                | false ↦ rest is c
              ])
          go true q true r = again (pair_in m i c.statements r)
          go true q false r = first
          go false q b r = absurd (false≢true q)
