-- T11 for the engine, over every accepted graph.
use Rattle.std.proofs.Common.{◌≡◌, ℕ, zero, suc, ◌+◌, ◌<◌, true, List, [], length, get_or, sym, ap, ◌∙◌, subst, arith, eq-eqb}
use Rattle.determine_side_effects.specs.rows_crate.Walk.{no_item}
use Rattle.determine_side_effects.specs.graph_format_crate.Format.{module_rules, statement_limit}
use Rattle.determine_side_effects.specs.graph_tables_crate.Tables.{header_in, modules_in}
use Rattle.determine_side_effects.proofs.graph_tables_crate.Facts.{its-read, number_same}
use Rattle.determine_side_effects.specs.graph_crate.Check.{Graph, graph_in, check_of, answer_of}
use Rattle.determine_side_effects.specs.graph_crate.Loaded.{Loaded}
use Rattle.determine_side_effects.specs.graph_access_crate.Names.{kind, owner, declaring_statements, only}
use Rattle.determine_side_effects.specs.graph_access_crate.Words.{module_of, symbol_of, statement_list, normal}
use Rattle.determine_side_effects.proofs.graph_access_crate.Indexes as index
use Rattle.determine_side_effects.proofs.graph_access_crate.StatementNumbers.{all_long}
use Rattle.determine_side_effects.specs.facts_crate.declared.Fact.{Fact}
use Rattle.determine_side_effects.specs.facts_crate.Facts.{statement_fact, forward_fact, Good}
use Rattle.determine_side_effects.specs.Effects.{last_verdicts}
use Rattle.keep_rules.specs.Rules.{gives}
use Rattle.worklist.specs.Drain.{drain_of}
use Rattle.closed_choices.specs.Choice.{Choice, Closed, HoldsStarts, HasLine, nothing_given}
use Rattle.closed_choices.proofs.Every.{every_at}
use Rattle.closed_choices.proofs.GoodGives.{consequences_good, good_statement}
use Rattle.closed_choices.proofs.Accepting.{accepted_tabled}
use Rattle.closed_choices.proofs.Smallest.{drain_smallest}
use Rattle.rust_engine.specs.Context.{Context, empty}
use Rattle.rust_engine.specs.EntryPoints.{InRows, SmallestOver, Exactly, Reached}
use Rattle.rust_engine.proofs.Links.{links}
use Rattle.rust_engine.proofs.Handlers.{handlers}
use Rattle.rust_engine.proofs.Exact.{engine_exact}
use Rattle.rust_engine.proofs.Nothing.{not_in_empty, smallest_over_nothing}
use Rattle.std.specs.Prelude.{Ok}

-- a module that has a statement is normal
limit_kind : (kind left n : ℕ) → 0 < n → n < statement_limit kind left → 0 < kind
unfolding statement_limit
limit_kind zero left n l u = absurd (omega (arith, u))
limit_kind (suc kind) left n l u = omega arith

module _ {numbers tables : List ℕ} (t : Loaded numbers tables) where
  abbrev g : Graph
  g = graph_in numbers

  -- the good facts are a closed choice
  symbol_good : (s : ℕ) → Good g (forward_fact s) → s < (header_in numbers).symbols
  unfolding graph_in
  symbol_good s h = h

  pub good_closed : Closed g (Good g)
  good_closed =
      record {
        by_K1 = λ m s i hm hs e u. k1 m s i hs e u;
        by_K2_to_K14 = λ f k h u. every_at (λ x. Good g x.fact) (gives g (last_verdicts g) f) nothing_given (consequences_good t (last_verdicts g) f h) k u;
      }
    where
      k1 : (m s i : ℕ) → Good g (forward_fact s) → owner (symbol_of g s) ≡ m → i < length (declaring_statements (symbol_of g s))
          → Good g (statement_fact m (only (get_or (declaring_statements (symbol_of g s)) i [])))
      k1 m s i hs e u =
          let r = only (get_or (declaring_statements (symbol_of g s)) i []) in
          subst (λ o. Good g (statement_fact o r)) e
          (good_statement numbers (owner (symbol_of g s)) r (index.owner_below t s (symbol_good s hs)) (index.declared_below t s i (symbol_good s hs) u))

  normal_by_statement : (m i : ℕ) → m < g.header.modules → i < length (statement_list g m) → normal g m ≡ true
  unfolding module_rules normal kind module_of graph_in
  normal_by_statement m i h l =
      let f = its-read numbers _ t.of_modules m h in
      let x = get_or (modules_in numbers) m no_item in
      let z : x.place ≡ x.place + 0 = omega arith in
      let s : get_or x.head 0 0 ≡ get_or numbers x.place 0 = number_same numbers _ t.of_modules m h 0 (omega arith) ∙ ap (λ k. get_or numbers k 0) (sym z) in
      let n : 0 < get_or x.head 9 0 = omega (arith, l, all_long t m h) in
      let k = limit_kind (get_or numbers x.place 0) f.left.statements (get_or x.head 9 0) n (f.read.head.good 9 (omega arith)).1 in
      eq-eqb (get_or x.head 0 0) 1 (omega (arith, s, k, (f.read.head.good 0 (omega arith)).1))

  pub own_normal : (m i : ℕ) → Good g (statement_fact m i) → normal g m ≡ true
  own_normal m i h = normal_by_statement m i h.0 h.1

  loaded_shows : (b : Context) → ((f : Fact) → InRows b f → Good g f) → (ss : List Fact) (taken : List ℕ) (c : Context) → Reached g (last_verdicts g) b ss taken c
      → HoldsStarts ss (Good g) → (C : Choice) → SmallestOver g (InRows b) ss C → Exactly g b C taken c
  loaded_shows b base ss taken c r good C s = engine_exact g good_closed (handlers g (links g) own_normal) b base ss taken c r good C s

-- over any base of good facts: where the Rust's entry points have returned on an accepted graph, its sets are exactly what the smallest choice shows
-- that has base and starts and is closed but for the base
pub engine_shows : (numbers : List ℕ) → answer_of (check_of numbers) ≡ Ok tt → (b : Context) → ((f : Fact) → InRows b f → Good (graph_in numbers) f)
    → (ss : List Fact) (taken : List ℕ) (c : Context) → Reached (graph_in numbers) (last_verdicts (graph_in numbers)) b ss taken c
    → HoldsStarts ss (Good (graph_in numbers))
    → (C : Choice) → SmallestOver (graph_in numbers) (InRows b) ss C → Exactly (graph_in numbers) b C taken c
engine_shows numbers ok b base ss taken c r good C s = loaded_shows (accepted_tabled numbers ok).holds b base ss taken c r good C s

-- over nothing: they are exactly what the drain of the same starts shows
pub rust_shows_drain : (numbers : List ℕ) → answer_of (check_of numbers) ≡ Ok tt → (ss : List Fact) (taken : List ℕ) (c : Context)
    → Reached (graph_in numbers) (last_verdicts (graph_in numbers)) empty ss taken c → HoldsStarts ss (Good (graph_in numbers))
    → Exactly (graph_in numbers) empty (HasLine (drain_of (graph_in numbers) (last_verdicts (graph_in numbers)) ss)) taken c
rust_shows_drain numbers ok ss taken c r good =
    let d = HasLine (drain_of (graph_in numbers) (last_verdicts (graph_in numbers)) ss) in
    engine_shows numbers ok empty (λ f h. absurd (not_in_empty f h)) ss taken c r good d
    (smallest_over_nothing (graph_in numbers) ss d (drain_smallest (accepted_tabled numbers ok).holds ss good))
