-- `handle_include_symbol`: it stays within every choice that is closed but for the base, and settles its use.
use Rattle.std.proofs.Common.{◌≡◌, ℕ, ◌-◌, Bool, true, false, ◌⊎◌, List, [], ◌∷◌, get_or, sym, refl, subst, inl, inr}
use Rattle.determine_side_effects.specs.graph_crate.Check.{Graph}
use Rattle.determine_side_effects.specs.graph_access_crate.Names.{declaring_statements, only}
use Rattle.determine_side_effects.specs.graph_access_crate.Words.{symbol_of}
use Rattle.determine_side_effects.specs.facts_crate.Facts.{statement_fact, use_fact}
use Rattle.determine_side_effects.specs.Effects.{last_verdicts}
use Rattle.answer_rows.specs.Shown.{shows, reason_by}
use Rattle.rust_values.specs.Values.{Pair, pair, In}
use Rattle.rust_engine.specs.Context.{Context, WorkItem, symbol_item, statement_item, rest}
use Rattle.rust_engine.specs.Tables.{owner_of, canonical_ref_for}
use Rattle.rust_engine.specs.Engine.{is_bypassed_inlined_constant, handle_include_symbol}
use Rattle.rust_engine.specs.EntryPoints.{ReasonBy}
use Rattle.rust_engine.proofs.Kept.{ReasonIn, fact_of_item, AllGiven, KeptStatement, Kept, Forwarded, UseShown, Settled, Grows}
use Rattle.rust_engine.proofs.Theorem.{beyond, Over, ClosedHere, Within, HasRows, good_over, Onward}
use Rattle.rust_engine.proofs.Asking.{grown_rows, of_choice, of_context, Fit, fit_grown, Grown, grown_refl}
use Rattle.rust_engine.proofs.Symbols.{asks-symbol, bypassed-symbol}
use Rattle.rust_engine.proofs.Handling.{RowsOf, Links, over, queued_kept, grown_grows, settle-by}

module _ (g : Graph) where
  abbrev v : List ℕ
  v = last_verdicts g

  pub symbol_grown : (s x : ℕ) (c : Context) → Grown g v c (handle_include_symbol g v s x c)
  symbol_grown s x c = go (is_bypassed_inlined_constant g (canonical_ref_for g s) x) refl
    where
      go : (b : Bool) → is_bypassed_inlined_constant g (canonical_ref_for g s) x ≡ b → Grown g v c (handle_include_symbol g v s x c)
      go true e = subst (λ d. Grown g v c d) (sym (bypassed-symbol g v s x c e)) (grown_refl g v c)
      go false e = (asks-symbol g v s x c e).grown

  -- the rows that a use of the choice shows: no use is in a base
  rows_choice : (S : Over) (s x : ℕ) → S.choice (use_fact s x) → RowsOf g (of_choice g v S) s x
  unfolding shows
  rows_choice S s x h =
      record {
        rows-used = λ j e. inr (use_fact s x, (h, λ z. z), e);
        rows-external = λ j e. inr (use_fact s x, (h, λ z. z), e);
        rows-json = λ j e. (use_fact s x, (h, λ z. z), e);
        rows-reason = λ m b q. inr (reasons m b q);
      }
    where
      reasons : (m b : ℕ) → ReasonIn (reason_by g s x) m b → ReasonBy g (beyond S) m b
      reasons m b (inl q) = inl (q.0, (use_fact s x, (h, λ z. z), q.1))
      reasons m b (inr q) = inr (q.0, (use_fact s x, (h, λ z. z), q.1))

  module _ (links : Links g) where
    pub symbol-within : (S : Over) → ClosedHere g S → (s x : ℕ) (c : Context) → S.choice (use_fact s x) → Within g S c → Within g S (handle_include_symbol g v s x c)
    symbol-within S k s x c h w = go (is_bypassed_inlined_constant g (canonical_ref_for g s) x) refl
      where
        go : (b : Bool) → is_bypassed_inlined_constant g (canonical_ref_for g s) x ≡ b → Within g S (handle_include_symbol g v s x c)
        go true e = subst (λ d. Within g S d) (sym (bypassed-symbol g v s x c e)) w
        go false e =
            (asks-symbol g v s x c e).within S k
            (links.symbol_from (of_choice g v S) s x e (λ i u. k.by_K2_to_K14 (use_fact s x) i h (λ z. z) u) (rows_choice S s x h)) w

    -- the queue without the use, which is now among those handled
    module _ (taken : List ℕ) (base : Context) (uses : List Pair) (c : Context) (s x : ℕ) (is : List WorkItem) (e : c.pending ≡ symbol_item s x ∷ is)
        (w : Within g (good_over g base) c) (h : Settled g v taken base uses c) where
      abbrev ws : List Pair
      ws = pair s x ∷ uses

      popped : Grows g v taken uses c ws (rest is c)
      unfolding rest
      popped =
          over g taken uses ws c (rest is c) (λ m i. i) (λ m i q. q) (λ a b q. inr q) (λ m i. i) (λ j q. queue j (subst (λ xs. In j xs) e q)) (λ a f. forwarded a f)
        where
          queue : (j : WorkItem) → (j ≡ symbol_item s x) ⊎ In j is → Kept g v taken ws (rest is c) (fact_of_item j)
          queue j (inl q) = subst (λ z. Kept g v taken ws (rest is c) (fact_of_item z)) (sym q) (inl (inl refl))
          queue j (inr q) = queued_kept g taken ws (rest is c) j q

          onto : (m i : ℕ) → KeptStatement g v taken c m i → KeptStatement g v taken (rest is c) m i
          onto m i (inl q) = inl q
          onto m i (inr q) = queue (statement_item m i) (subst (λ xs. In (statement_item m i) xs) e q)

          forwarded : (a : ℕ) → Forwarded g v taken c a → Forwarded g v taken (rest is c) a
          forwarded a f = record { joins = λ i k u. onto (owner_of g a) (only (get_or (declaring_statements (symbol_of g a)) k [])) (f.joins i k u); waits = f.waits }

      abbrev d : Context
      d = handle_include_symbol g v s x (rest is c)

      rest-fit : Fit g v (rest is c)
      unfolding rest
      rest-fit = record { swept-done = λ b q n i u t. popped (statement_fact b i) (h.swept-done b q n i u t); normals = λ m i. (w.of_modules m i).1 }

      pub symbol-settles : Onward g v taken base uses c d
      unfolding rest
      symbol-settles = record { now_handled = ws; settled = settled; grows = grows }
        where
          body-grown : Grown g v (rest is c) d
          body-grown = symbol_grown s x (rest is c)

          grows : Grows g v taken uses c ws d
          grows f q = grown_grows g taken ws (rest is c) d body-grown f (popped f q)

          new : AllGiven g v (Kept g v taken ws d) (use_fact s x) × RowsOf g (of_context g v taken ws d) s x
          new = links.symbol_to (of_context g v taken ws d) s x (λ q. (asks-symbol g v s x (rest is c) q).keeps taken ws d rest-fit (grown_refl g v d))

          shown : UseShown g v taken d s x
          shown = record { in-used = new.1.rows-used; in-external = new.1.rows-external; in-json = new.1.rows-json; in-reason = new.1.rows-reason }

          ofPair : (a b : ℕ) → (pair a b ≡ pair s x) ⊎ In (pair a b) uses → In (pair a b) uses
              ⊎ (AllGiven g v (Kept g v taken ws d) (use_fact a b) × UseShown g v taken d a b)
          ofPair a b (inl q) =
              inr (subst (λ p. AllGiven g v (Kept g v taken ws d) (use_fact p.first p.second) × UseShown g v taken d p.first p.second) (sym q)
              (new.0, shown))
          ofPair a b (inr q) = inl q

          rows : HasRows c d
          rows =
              let r = grown_rows g v (rest is c) d body-grown in
              record {
                has_modules = r.has_modules;
                has_statements = r.has_statements;
                has_used = r.has_used;
                has_external = r.has_external;
                has_reasons = r.has_reasons;
              }

          settled : Settled g v taken base ws d
          settled =
              settle-by g taken base uses ws c d h grows (λ m i. inl (subst (λ xs. In m xs) body-grown.modules_same i))
              (λ m i q. inl (subst (λ xs. In (pair m i) xs) body-grown.statements-same q)) ofPair rows body-grown.json-sub
              (fit_grown g v (rest is c) d body-grown rest-fit).swept-done
