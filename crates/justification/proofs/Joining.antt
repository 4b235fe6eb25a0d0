-- K1: the search among the statements that declare a forward.
use Prim.Native.Nat.{ℕ, ◌+◌, ◌<◌, ◌≤◌}
use mathlib.Core.Path.{◌≡◌, refl, ap, ◌∙◌, sym, subst}
use mathlib.Core.Bool.{Bool, true, false, ◌&&◌, false≢true}
use mathlib.Core.List.{List, []}
use native.Mathlib.Omega.{arith}
use borrow.Author.Tests.{eq-eqb, ne_eqb, eqb-true, eqb-false}
use lib.Dec.{eqb}
use lib.ListN.{length, get_or}
use Rattle.determine_side_effects.specs.graph_crate.Check.{Graph, graph_in}
use Rattle.determine_side_effects.specs.graph_tables_crate.Tables.{header_in}
use Rattle.determine_side_effects.specs.graph_access_crate.Names.{owner, declaring_statements, only}
use Rattle.determine_side_effects.specs.graph_access_crate.Words.{symbol_of}
use Rattle.determine_side_effects.specs.index_crate.declared.ModuleIdx.{ModuleIdx}
use Rattle.determine_side_effects.specs.index_crate.declared.StmtIdx.{StmtIdx}
use Rattle.determine_side_effects.specs.index_crate.declared.SymbolIdx.{SymbolIdx}
use Rattle.determine_side_effects.specs.facts_crate.declared.Reason.{Reason}
use Rattle.determine_side_effects.specs.facts_crate.declared.Fact.{Fact}
use Rattle.determine_side_effects.specs.facts_crate.declared.Fact.TheVariants.{Module, Statement, Use, CheckedUse, Forward, Bailout}
use Rattle.determine_side_effects.specs.facts_crate.Facts.{Good, kind_of, first_part, statement_fact}
use Rattle.determine_side_effects.proofs.Lists.{some_found, some_holds}
use Rattle.worklist.specs.Drain.{is_forward_of}
use Rattle.justification.specs.Justify.{same_fact, declares, joined_by, joined_by_either}
use Rattle.justification.specs.Search.{DeclaringSearched, Declared, JoinedOne, Joined}
use Rattle.justification.proofs.Searches.{at_nowhere}
use Rattle.std.specs.Prelude.{Option, Some, None}

-- the declaring statements of symbol s
module _ (numbers : List ℕ) (s : ℕ) (f : Fact) where
  abbrev is_it : List ℕ → Bool
  is_it row = same_fact (statement_fact (owner (symbol_of (graph_in numbers) s)) (only row)) f

  abbrev rows : List (List ℕ)
  rows = declaring_statements (symbol_of (graph_in numbers) s)

  declares_true : (i : ℕ) → i < length rows → is_it (get_or rows i []) ≡ true → declares (graph_in numbers) s f ≡ true
  unfolding declares
  declares_true i l e = some_holds is_it [] rows i l e

  declares_false : ((i : ℕ) → i < length rows → is_it (get_or rows i []) ≡ false) → declares (graph_in numbers) s f ≡ false
  unfolding declares
  declares_false h = go (declares (graph_in numbers) s f) refl
    where
      go : (b : Bool) → declares (graph_in numbers) s f ≡ b → declares (graph_in numbers) s f ≡ false
      go true e = let w = some_found is_it [] rows e in absurd (false≢true (sym (h w.0 w.1) ∙ w.2))
      go false e = e

  pub record Declaring (k i : ℕ) : Type 0 where
    pub none : (n : ℕ) → k ≤ n → n < i → is_it (get_or rows n []) ≡ false

  pub declaring_start : (k : ℕ) → Declaring k k
  declaring_start k = record { none = λ n a b. absurd (omega arith) }

  pub declaring_read : (i : ℕ) (m : ModuleIdx) (x : StmtIdx) (b t : Bool) → m.0 ≡ owner (symbol_of (graph_in numbers) s) → x.0 ≡ only (get_or rows i [])
      → b ≡ same_fact (Statement m x) f → b ≡ t → is_it (get_or rows i []) ≡ t
  unfolding same_fact
  declaring_read i m x b t p q e z = rw (sym p, sym q) (sym e ∙ z)

  pub declaring_on : (k i : ℕ) → Declaring k i → is_it (get_or rows i []) ≡ false → Declaring k (i + 1)
  declaring_on k i p e = record { none = λ n a b. go n a b (eqb n i) refl }
    where
      go : (n : ℕ) → k ≤ n → n < i + 1 → (t : Bool) → eqb n i ≡ t → is_it (get_or rows n []) ≡ false
      go n a b true t = ap (λ x. is_it (get_or rows x [])) (eqb-true n i t) ∙ e
      go n a b false t = let z = eqb-false n i t in p.none n a (omega (arith, z))

  pub declaring_found : (k i : ℕ) → i < length rows → is_it (get_or rows i []) ≡ true → DeclaringSearched numbers s f k (Some i)
  declaring_found k i l e = record { at = λ n q. declares_true i l e; nowhere = λ q. absurd (at_nowhere q) }

  pub declaring_end : (k i : ℕ) → Declaring k i → length rows ≤ i → DeclaringSearched numbers s f k None
  declaring_end k i p l = record { at = λ n q. absurd (at_nowhere (sym q)); nowhere = λ q n a b. p.none n a (omega arith) }

  pub declared_found : (k i : ℕ) (r : Option ℕ) → DeclaringSearched numbers s f k r → r ≡ Some i → Declared numbers s f (Some i)
  declared_found k i r w e = record { at = λ n q. w.at i e; nowhere = λ q. absurd (at_nowhere q) }

  pub declared_all : (r : Option ℕ) → DeclaringSearched numbers s f 0 r → Declared numbers s f r
  declared_all r w = record { at = λ n q. w.at n q; nowhere = λ q. declares_false (λ i l. w.nowhere q i (omega arith) l) }

pub good_forward : (numbers : List ℕ) (b : Fact) (s : SymbolIdx) → Good (graph_in numbers) b → b ≡ Forward s → s.0 < (header_in numbers).symbols
unfolding graph_in
good_forward numbers b s h e = subst (λ x. Good (graph_in numbers) x) e h

-- a module and a forward, in this order
module _ (numbers : List ℕ) (a b f : Fact) where
  abbrev g : Graph
  g = graph_in numbers

  not_joined : joined_by g a b f ≡ false → JoinedOne numbers a b f None
  not_joined e = record { at = λ n q. absurd (at_nowhere (sym q)); nowhere = λ q. e }

  pub joined_not_module : (k : ℕ) → k ≡ kind_of a → (k ≡ 1 → ⊥) → JoinedOne numbers a b f None
  unfolding joined_by
  joined_not_module k e n = not_joined (rw (ne_eqb (kind_of a) 1 (λ z. n (e ∙ z))))

  module _ (k : kind_of a ≡ 1) where
    joined-when : joined_by g a b f ≡ (is_forward_of g (first_part a) b && declares g (first_part b) f)
    unfolding joined_by
    joined-when = rw (eq-eqb (kind_of a) 1 k)

    joined-no : is_forward_of g (first_part a) b ≡ false → JoinedOne numbers a b f None
    joined-no e = not_joined (joined-when ∙ rw e)

    pub joined-module : (m : ModuleIdx) → b ≡ Module m → JoinedOne numbers a b f None
    joined-module m e = joined-no (rw e)

    pub joined-statement : (m : ModuleIdx) (i : StmtIdx) → b ≡ Statement m i → JoinedOne numbers a b f None
    joined-statement m i e = joined-no (rw e)

    pub joined-use : (s : SymbolIdx) (x : Reason) → b ≡ Use s x → JoinedOne numbers a b f None
    joined-use s x e = joined-no (rw e)

    pub joined-checked : (s : SymbolIdx) (x : Reason) → b ≡ CheckedUse s x → JoinedOne numbers a b f None
    joined-checked s x e = joined-no (rw e)

    pub joined-bailout : (m : ModuleIdx) → b ≡ Bailout m → JoinedOne numbers a b f None
    joined-bailout m e = joined-no (rw e)

    module _ (s : SymbolIdx) (e : b ≡ Forward s) (o p : ℕ) (is : o ≡ owner (symbol_of g s.0)) (first : p ≡ first_part a) where
      pub joined-other : (o ≡ p → ⊥) → JoinedOne numbers a b f None
      joined-other n = joined-no (rw e (ne_eqb (owner (symbol_of g s.0)) (first_part a) (λ z. n (is ∙ z ∙ sym first))))

      pub joined-declared : (r : Option ℕ) → o ≡ p → Declared numbers s.0 f r → JoinedOne numbers a b f r
      joined-declared r z w =
          let t : is_forward_of g (first_part a) b ≡ true = rw e (eq-eqb (owner (symbol_of g s.0)) (first_part a) (sym is ∙ z ∙ first)) in
          let j : joined_by g a b f ≡ declares g s.0 f = joined-when ∙ rw (t, e) in
          record { at = λ i q. j ∙ w.at i q; nowhere = λ q. j ∙ w.nowhere q }

  -- in either order
  pub joins_first : (r : Option ℕ) (i : ℕ) → JoinedOne numbers a b f r → r ≡ Some i → Joined numbers a b f (Some i)
  unfolding joined_by_either
  joins_first r i w e = record { at = λ n q. rw (w.at i e); nowhere = λ q. absurd (at_nowhere q) }

  pub joins_second : (r r' : Option ℕ) → JoinedOne numbers a b f r → r ≡ None → JoinedOne numbers b a f r' → Joined numbers a b f r'
  unfolding joined_by_either
  joins_second r r' w e v = record { at = λ n q. rw (w.nowhere e) (v.at n q); nowhere = λ q. rw (w.nowhere e) (v.nowhere q) }
