-- Nothing is absent from lines exactly if their facts hold the starts and are closed.
use Prim.Native.Nat.{ℕ, ◌<◌}
use mathlib.Core.Path.{◌≡◌, refl, ap, sym, subst}
use mathlib.Core.Bool.{Bool, true}
use mathlib.Core.List.{List, []}
use native.Mathlib.Omega.{arith}
use lib.ListN.{length, get_or}
use Rattle.determine_side_effects.specs.graph_tables_crate.Tables.{header_in}
use Rattle.determine_side_effects.specs.graph_crate.Check.{Graph, graph_in}
use Rattle.determine_side_effects.specs.graph_crate.Loaded.{Loaded}
use Rattle.determine_side_effects.specs.graph_access_crate.Names.{owner, declaring_statements, only}
use Rattle.determine_side_effects.specs.graph_access_crate.Words.{symbol_of, normal}
use Rattle.determine_side_effects.proofs.graph_access_crate.Indexes as index
use Rattle.determine_side_effects.specs.Effects.{last_verdicts}
use Rattle.determine_side_effects.specs.facts_crate.declared.Fact.{Fact}
use Rattle.determine_side_effects.specs.facts_crate.declared.Fact.TheVariants.{Module, Statement, Use, CheckedUse, Forward, Bailout}
use Rattle.determine_side_effects.specs.facts_crate.Facts.{module_fact, statement_fact, forward_fact, kind_of, Good}
use Rattle.keep_rules.specs.Rules.{gives}
use Rattle.keep_record.specs.declared.Line.{Line}
use Rattle.keep_record.specs.Lines.{has}
use Rattle.keep_record.specs.Held.{lines_of}
use Rattle.keep_record.proofs.Rows.{lines-length}
use Rattle.worklist.specs.Drain.{line, fact_at}
use Rattle.completeness.specs.Complete.{is_closed_at, are_declared, is_joined_at, is_closed_fact, are_closed, is_complete}
use Rattle.closed_choices.specs.Choice.{Choice, nothing_given, Closed, HoldsStarts, HasLine}
use Rattle.closed_choices.proofs.Every.{every_at}
use Rattle.closed_choices.proofs.GoodGives.{consequences_good, good_module, good_statement}
use Rattle.rule_relation.proofs.Tests.{Says, says_as, says_it, says_both}
use Rattle.judged_records.specs.Sentence.{fact_in}
use Rattle.judged_records.proofs.Tests.{says_then, says_where, says_all}
use Rattle.judged_records.proofs.Facts.{fact_at_lem, line_good, says-has}

module _ {numbers tables : List ℕ} (t : Loaded numbers tables) (row : List ℕ) (n : ℕ) (good : (k : ℕ) → k < n → Good (graph_in numbers) (fact_in row k)) where
  abbrev g : Graph
  g = graph_in numbers

  abbrev v : List ℕ
  v = last_verdicts (graph_in numbers)

  abbrev lines : List Line
  lines = lines_of n row

  abbrev C : Choice
  C = HasLine lines

  abbrev kept : Fact → Bool
  kept = has g 0 lines

  says_kept : (f : Fact) → Good g f → Says (kept f) (C f)
  says_kept = says-has t row n good

  -- K2 to K14 at a fact
  abbrev ClosedAt : Fact → Type 0
  ClosedAt f = (k : ℕ) → k < length (gives g v f) → C (get_or (gives g v f) k nothing_given).fact

  says_closed_at : (f : Fact) → Good g f → Says (is_closed_at g v kept f) (ClosedAt f)
  unfolding is_closed_at
  says_closed_at f h =
      says_all (λ x. C x.fact) (λ x. kept x.fact) nothing_given (gives g v f)
      (λ k u. says_kept (get_or (gives g v f) k nothing_given).fact (every_at (λ x. Good g x.fact) (gives g v f) nothing_given (consequences_good t v f h) k u))

  -- K1 at a forward
  abbrev Declared : ℕ → Type 0
  Declared s = C (module_fact (owner (symbol_of g s))) → (i : ℕ) → i < length (declaring_statements (symbol_of g s)) → C (statement_fact (owner (symbol_of g s)) (only (get_or (declaring_statements (symbol_of g s)) i [])))

  symbol_below : (s : ℕ) → Good g (forward_fact s) → s < (header_in numbers).symbols
  unfolding graph_in
  symbol_below s h = h

  says_declared : (s : ℕ) → Good g (forward_fact s) → Says (are_declared g kept s) (Declared s)
  unfolding are_declared
  says_declared s h =
      let l = symbol_below s h in
      let o = owner (symbol_of g s) in
      says_where {A = C (module_fact o)}
      (says_as (says_then (says_it (normal g o)) (λ e. says_kept (module_fact o) (good_module numbers o (index.owner_below t s l) e))) (λ x. x.1) (λ c. ((line_good t row n good c).1, c)))
      (λ c. says_all (λ r. C (statement_fact o (only r))) (λ r. kept (statement_fact o (only r))) [] (declaring_statements (symbol_of g s))
      (λ i u. says_kept (statement_fact o (only (get_or (declaring_statements (symbol_of g s)) i []))) (good_statement numbers o (only (get_or (declaring_statements (symbol_of g s)) i [])) (index.owner_below t s l) (index.declared_below t s i l u))))

  -- K1 at any fact
  abbrev JoinedAt : Fact → Type 0
  JoinedAt f = (s : ℕ) → f ≡ forward_fact s → Declared s

  no_forward : (f : Fact) → (kind_of f ≡ 5 → ⊥) → Says true (JoinedAt f)
  no_forward f h = record { tells = λ e s q. absurd (h (ap kind_of q)); holds = λ x. refl }

  says_joined_at : (f : Fact) → Good g f → Says (is_joined_at g kept f) (JoinedAt f)
  says_joined_at (Module m) h = no_forward (Module m) (λ z. omega (arith, z))
  says_joined_at (Statement m i) h = no_forward (Statement m i) (λ z. omega (arith, z))
  says_joined_at (Use s x) h = no_forward (Use s x) (λ z. omega (arith, z))
  says_joined_at (CheckedUse s x) h = no_forward (CheckedUse s x) (λ z. omega (arith, z))
  says_joined_at (Forward s) h = says_as (says_declared s.0 h) (λ d r q. let z : s.0 ≡ r = cc in subst (λ y. Declared y) z d) (λ x. x s.0 refl)
  says_joined_at (Bailout m) h = no_forward (Bailout m) (λ z. omega (arith, z))

  -- all lines
  abbrev ClosedLine : Fact → Type 0
  ClosedLine f = JoinedAt f × ClosedAt f

  abbrev no_line : Line
  no_line = line (module_fact 0) 0 0 0

  line_fact : (k : ℕ) → k < length lines → (k < n) × ((get_or lines k no_line).fact ≡ fact_in row k)
  unfolding fact_at
  line_fact k u = let w : k < n = omega (arith, u, lines-length n row) in (w, fact_at_lem row n k w)

  says_closed_lines : Says (are_closed g v kept lines) ((k : ℕ) → k < length lines → ClosedLine (get_or lines k no_line).fact)
  unfolding are_closed is_closed_fact
  says_closed_lines =
      says_all (λ l. ClosedLine l.fact) (λ l. is_closed_fact g v kept l.fact) no_line lines
      (λ k u.
      let p = line_fact k u in
      let h : Good g (get_or lines k no_line).fact = subst (λ x. Good g x) (sym p.1) (good k p.0) in
      says_both (says_joined_at (get_or lines k no_line).fact h) (says_closed_at (get_or lines k no_line).fact h))

  closed_line : ((k : ℕ) → k < length lines → ClosedLine (get_or lines k no_line).fact) → (f : Fact) → C f → ClosedLine f
  unfolding fact_at
  closed_line h f c = subst (λ x. ClosedLine x) c.is (h c.number c.inside)

  lines_closed : ((k : ℕ) → k < length lines → ClosedLine (get_or lines k no_line).fact) → Closed g C
  lines_closed h =
      record {
        by_K1 =
            λ m s i cm cs o u.
            subst (λ x. C (statement_fact x (only (get_or (declaring_statements (symbol_of g s)) i [])))) o
            ((closed_line h (forward_fact s) cs).0 s refl (subst (λ x. C (module_fact x)) (sym o) cm) i u);
        by_K2_to_K14 = λ f k c u. (closed_line h f c).1 k u;
      }

  closed_lines : Closed g C → (k : ℕ) → k < length lines → ClosedLine (get_or lines k no_line).fact
  unfolding fact_at
  closed_lines c k u =
      let f = (get_or lines k no_line).fact in
      let h : C f = record { number = k; inside = u; is = refl } in
      ((λ s q m i w. c.by_K1 (owner (symbol_of g s)) s i m (subst (λ x. C x) q h) refl w), (λ j w. c.by_K2_to_K14 f j h w))

  pub says_complete : (starts : List Fact) → HoldsStarts starts (Good g) → Says (is_complete g v kept starts lines) (HoldsStarts starts C × Closed g C)
  unfolding is_complete
  says_complete starts h =
      says_both (says_all C kept (module_fact 0) starts (λ i u. says_kept (get_or starts i (module_fact 0)) (h i u)))
      (says_as says_closed_lines lines_closed closed_lines)
