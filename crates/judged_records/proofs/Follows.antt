-- The tests of a justification are the rules of the relation.
use Prim.Native.Nat.{ℕ, ◌<◌}
use mathlib.Core.Path.{◌≡◌, refl, ap, ◌∙◌, sym, subst}
use mathlib.Core.Logic.{◌⊎◌}
use mathlib.Core.Bool.{true}
use mathlib.Core.List.{List, []}
use borrow.Author.Tests.{eq-eqb}
use lib.ListN.{length, get_or}
use Rattle.determine_side_effects.specs.graph_crate.Check.{Graph}
use Rattle.determine_side_effects.specs.graph_access_crate.Names.{owner, declaring_statements, only}
use Rattle.determine_side_effects.specs.graph_access_crate.Words.{symbol_of}
use Rattle.determine_side_effects.specs.facts_crate.declared.Fact.{Fact}
use Rattle.determine_side_effects.specs.facts_crate.Facts.{fact_of, kind_of, first_part, second_part, module_fact, statement_fact}
use Rattle.determine_side_effects.proofs.facts_crate.Marks.{fact_back}
use Rattle.keep_rules.specs.Rules.{Given, gives}
use Rattle.worklist.specs.Drain.{is_forward_of}
use Rattle.justification.specs.Justify.{same_fact, is_given_by, follows, declares, joined_by, joined_by_either}
use Rattle.rule_relation.specs.Relation.{Gives, Joins, K1}
use Rattle.rule_relation.specs.Same.{given, OfNormal}
use Rattle.rule_relation.proofs.Tests.{Says, says_as, says_it, says_equal, says_both, says_either, says_some}
use Rattle.rule_relation.proofs.Exactly.{gives_exactly}
use Rattle.closed_choices.proofs.Reaching.{forward_there}

-- facts of the same numbers are one fact
same_numbers : (a b : Fact) → kind_of a ≡ kind_of b → first_part a ≡ first_part b → second_part a ≡ second_part b → a ≡ b
same_numbers a b p q r = fact_back a ∙ cc (p, q, r) ∙ sym (fact_back b)

pub says_same : (a b : Fact) → Says (same_fact a b) (a ≡ b)
unfolding same_fact
says_same a b =
    says_as (says_both (says_equal (kind_of a) (kind_of b)) (says_both (says_equal (first_part a) (first_part b)) (says_equal (second_part a) (second_part b))))
    (λ x. same_numbers a b x.0 x.1.0 x.1.1) (λ e. (ap kind_of e, (ap first_part e, ap second_part e)))

-- K2 to K14, from a fact that is no external module
says_given : (r : ℕ) (f : Fact) (x : Given) → Says (is_given_by r f x) (x ≡ given r f)
unfolding is_given_by
says_given r f x = says_as (says_both (says_equal x.rule r) (says_same x.fact f)) (λ p. ap (λ s. given s x.fact) p.0 ∙ ap (λ e. given r e) p.1) (λ e. (ap (λ y. y.rule) e, ap (λ y. y.fact) e))

pub says_follows : (g : Graph) (v : List ℕ) (premise : Fact) (r : ℕ) (f : Fact) → OfNormal g premise → Says (follows g v premise r f) (Gives g v r premise f)
unfolding follows
says_follows g v premise r f n =
    let e = gives_exactly g v r premise f n in
    says_as (says_some (is_given_by r f) (given 0 (module_fact 0)) (gives g v premise) (says_given r f))
    (λ x. e.0 (record { number = x.0; inside = x.1; is = x.2 })) (λ x. let l = e.1 x in (l.number, l.inside, l.is))

-- K1
module_is : (a : Fact) → kind_of a ≡ 1 → a ≡ module_fact (first_part a)
unfolding fact_of
module_is a e = fact_back a ∙ ap (λ k. fact_of k (first_part a) (second_part a)) e

-- statement f declares symbol s
abbrev Declares : Graph → ℕ → Fact → Type 0
Declares g s f = (k : ℕ) × (k < length (declaring_statements (symbol_of g s))) × (statement_fact (owner (symbol_of g s)) (only (get_or (declaring_statements (symbol_of g s)) k [])) ≡ f)

says_declares : (g : Graph) (s : ℕ) (f : Fact) → Says (declares g s f) (Declares g s f)
unfolding declares
says_declares g s f =
    says_some (λ row. same_fact (statement_fact (owner (symbol_of g s)) (only row)) f) [] (declaring_statements (symbol_of g s))
    (λ row. says_same (statement_fact (owner (symbol_of g s)) (only row)) f)

abbrev Joined : Graph → Fact → Fact → Fact → Type 0
Joined g a b f = (kind_of a ≡ 1) × ((is_forward_of g (first_part a) b ≡ true) × Declares g (first_part b) f)

joined_joins : (g : Graph) (a b f : Fact) → Joined g a b f → Joins g a b f
joined_joins g a b f x =
    let p = forward_there g (first_part a) b x.1.0 in
    let d = x.1.1 in
    let e : statement_fact (first_part a) (only (get_or (declaring_statements (symbol_of g (first_part b))) d.0 [])) ≡ f = ap (λ o. statement_fact o (only (get_or (declaring_statements (symbol_of g (first_part b))) d.0 []))) (sym p.1) ∙ d.2 in
    subst (λ y. Joins g a b y) e
    (subst (λ y. Joins g y b (statement_fact (first_part a) (only (get_or (declaring_statements (symbol_of g (first_part b))) d.0 [])))) (sym (module_is a x.0))
    (subst (λ y. Joins g (module_fact (first_part a)) y (statement_fact (first_part a) (only (get_or (declaring_statements (symbol_of g (first_part b))) d.0 [])))) (sym p.0)
    (K1 (first_part a) (first_part b) d.0 p.1 d.1)))

joins_joined : (g : Graph) {a b f : Fact} → Joins g a b f → Joined g a b f
joins_joined g (K1 m s k o u) = (refl, (eq-eqb (owner (symbol_of g s)) m o, (k, u, ap (λ x. statement_fact x (only (get_or (declaring_statements (symbol_of g s)) k []))) o)))

says_joined : (g : Graph) (a b f : Fact) → Says (joined_by g a b f) (Joins g a b f)
unfolding joined_by
says_joined g a b f =
    says_as (says_both (says_equal (kind_of a) 1) (says_both (says_it (is_forward_of g (first_part a) b)) (says_declares g (first_part b) f)))
    (joined_joins g a b f) (joins_joined g)

pub says_joined_either : (g : Graph) (a b f : Fact) → Says (joined_by_either g a b f) (Joins g a b f ⊎ Joins g b a f)
unfolding joined_by_either
says_joined_either g a b f = says_either (says_joined g a b f) (says_joined g b a f)
