-- T5 and T8 by the rules: for accepted numbers and good starts, the smallest choice by the lists of consequences is the smallest one by the
-- rules as a relation. The lists give more only from an external module, and no choice that is the smallest has one.
use Prim.Native.Nat.{ℕ, ◌<◌}
use mathlib.Core.Path.{◌≡◌, refl, ap, subst}
use mathlib.Core.List.{List, []}
use lib.ListN.{length, get_or}
use Rattle.determine_side_effects.specs.graph_tables_crate.Tables.{header_in}
use Rattle.determine_side_effects.specs.graph_crate.Check.{Graph, graph_in}
use Rattle.determine_side_effects.specs.graph_crate.Loaded.{Loaded}
use Rattle.determine_side_effects.specs.graph_access_crate.Names.{owner, declaring_statements, only}
use Rattle.determine_side_effects.specs.graph_access_crate.Words.{symbol_of}
use Rattle.determine_side_effects.proofs.graph_access_crate.Indexes as index
use Rattle.determine_side_effects.specs.Effects.{last_verdicts}
use Rattle.determine_side_effects.specs.facts_crate.declared.Fact.{Fact}
use Rattle.determine_side_effects.specs.facts_crate.declared.Fact.TheVariants.{Module, Statement, Use, CheckedUse, Forward, Bailout}
use Rattle.determine_side_effects.specs.facts_crate.Facts.{module_fact, statement_fact, forward_fact, Good}
use Rattle.keep_rules.specs.Rules.{gives}
use Rattle.starts.specs.Starts.{starts_of, StartsGood}
use Rattle.starts.proofs.Starting.{starts_good}
use Rattle.rule_relation.specs.Relation.{Gives, Joins, K1}
use Rattle.rule_relation.specs.Same.{OfNormal}
use Rattle.rule_relation.proofs.Exactly.{gives_exactly, given_listed}
use Rattle.closed_choices.specs.Choice.{Choice, nothing_given, Closed, Smallest}
use Rattle.closed_choices.proofs.Every.{every_at}
use Rattle.closed_choices.proofs.GoodGives.{consequences_good, good_statement}
use Rattle.closed_choices.proofs.Accepting.{accepted_tabled}
use Rattle.closed_choices.proofs.Done.{drain_done}
use Rattle.closed_choices.proofs.OfOperation.{drain_shows}
use Rattle.run_choices.proofs.Done.{run_done}
use Rattle.run_choices.proofs.OfRuns.{run_keeps}
use Rattle.judged_records.specs.Choice.{ClosedByRules, SmallestByRules}
use Rattle.judged_records.specs.Operation.{SmallestBoth, EveryDrainSmallest, EveryRunSmallest}

-- a good fact is no external module
pub good_normal : (g : Graph) (f : Fact) → Good g f → OfNormal g f
good_normal g (Module m) h = h.1
good_normal g (Statement m i) h = tt
good_normal g (Use s x) h = tt
good_normal g (CheckedUse s x) h = tt
good_normal g (Forward s) h = tt
good_normal g (Bailout m) h = tt

module _ (g : Graph) (C : Choice) where
  -- what is given is listed, so a choice that is closed by the lists is closed by the rules
  module _ (c : Closed g C) where
    join-in : {a b f : Fact} → Joins g a b f → C a → C b → C f
    join-in (K1 m s k o u) x y = c.by_K1 m s k x y o u

    give-in : (r : ℕ) (f e : Fact) → Gives g (last_verdicts g) r f e → C f → C e
    unfolding nothing_given
    give-in r f e h x = let l = given_listed g (last_verdicts g) h in subst (λ y. C y) (ap (λ y. y.fact) l.is) (c.by_K2_to_K14 f l.number x l.inside)

    pub closed-by-rules : ClosedByRules g C
    closed-by-rules = record { by_K1 = λ a b f j. join-in j; by_K2_to_K14 = give-in }

  -- and the other way round, where it has no external module
  pub rules_closed : ((f : Fact) → C f → OfNormal g f) → ClosedByRules g C → Closed g C
  unfolding nothing_given
  rules_closed normal c =
      record {
        by_K1 = λ m s i x y o u. c.by_K1 (module_fact m) (forward_fact s) (statement_fact m (only (get_or (declaring_statements (symbol_of g s)) i []))) (K1 m s i o u) x y;
        by_K2_to_K14 =
            λ f k x u. let l = get_or (gives g (last_verdicts g) f) k nothing_given in
            c.by_K2_to_K14 l.rule f l.fact ((gives_exactly g (last_verdicts g) l.rule f l.fact (normal f x)).0 (record { number = k; inside = u; is = refl })) x;
      }

module _ {numbers tables : List ℕ} (t : Loaded numbers tables) where
  abbrev g : Graph
  g = graph_in numbers

  abbrev v : List ℕ
  v = last_verdicts (graph_in numbers)

  -- the good facts are a choice that is closed by the rules
  symbol_below : (s : ℕ) → Good g (forward_fact s) → s < (header_in numbers).symbols
  unfolding graph_in
  symbol_below s h = h

  declared_good : (m s i : ℕ) → Good g (forward_fact s) → owner (symbol_of g s) ≡ m → i < length (declaring_statements (symbol_of g s)) → Good g (statement_fact m (only (get_or (declaring_statements (symbol_of g s)) i [])))
  declared_good m s i h e u =
      let l = symbol_below s h in
      let k = only (get_or (declaring_statements (symbol_of g s)) i []) in
      subst (λ o. Good g (statement_fact o k)) e (good_statement numbers (owner (symbol_of g s)) k (index.owner_below t s l) (index.declared_below t s i l u))

  good_closed : ClosedByRules g (Good g)
  good_closed =
      closed-by-rules g (Good g)
      (record {
        by_K1 = λ m s i x y o u. declared_good m s i y o u;
        by_K2_to_K14 = λ f k h u. every_at (λ x. Good g x.fact) (gives g v f) nothing_given (consequences_good t v f h) k u;
      })

  -- the good facts of a choice that is closed by the rules are one that is closed by the lists
  abbrev GoodOf : Choice → Choice
  GoodOf D f = D f × Good g f

  good_of_closed : (D : Choice) → ClosedByRules g D → Closed g (GoodOf D)
  good_of_closed D d =
      rules_closed g (GoodOf D) (λ f x. good_normal g f x.1)
      (record {
        by_K1 = λ a b f j x y. (d.by_K1 a b f j x.0 y.0, good_closed.by_K1 a b f j x.1 y.1);
        by_K2_to_K14 = λ r f e h x. (d.by_K2_to_K14 r f e h x.0, good_closed.by_K2_to_K14 r f e h x.1);
      })

  module _ (starts : List Fact) (good : StartsGood (graph_in numbers) starts) (C : Choice) where
    pub to-rules : Smallest g starts C → SmallestByRules g starts C
    to-rules s =
        record {
          holds_starts = s.holds_starts;
          closed = closed-by-rules g C s.closed;
          inside_each = λ D h d f x. (s.inside_each (GoodOf D) (λ i u. (h i u, good i u)) (good_of_closed D d) f x).0;
        }

    pub of-rules : SmallestByRules g starts C → Smallest g starts C
    of-rules s =
        record {
          holds_starts = s.holds_starts;
          closed = rules_closed g C (λ f x. good_normal g f (s.inside_each (Good g) good good_closed f x)) s.closed;
          inside_each = λ D h d. s.inside_each D h (closed-by-rules g D d);
        }

pub smallest_by_rules : SmallestBoth
smallest_by_rules numbers accepted starts good C = let t = (accepted_tabled numbers accepted).holds in (to-rules t starts good C, of-rules t starts good C)

-- the facts of a drain, and those of a run's main part
pub drain_smallest : EveryDrainSmallest
drain_smallest numbers starts room g lines e =
    let d = drain_done numbers starts room g lines e in
    let s = (drain_shows numbers starts room g lines e).1.smallest in
    rw d.graph_is ((smallest_by_rules numbers d.accepted (starts_of starts) (starts_good (graph_in numbers) starts d.faultless) _).0 (rw d.graph_is at s))

pub run_smallest : EveryRunSmallest
run_smallest numbers room g r e =
    let d = run_done numbers room g r e in
    let k = rw d.graph_is at (run_keeps numbers room g r e).1 in
    rw d.graph_is ((smallest_by_rules numbers d.accepted _ k.starts_good _).0 k.smallest)
