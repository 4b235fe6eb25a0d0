-- The segments of a rule, by the kind of the premise.
use Prim.Native.Nat.{ℕ, zero, suc, ◌+◌, ◌<◌, ◌≤◌}
use mathlib.Core.Path.{◌≡◌, refl, ap, ◌∙◌, sym}
use mathlib.Core.Logic.{◌≢◌}
use mathlib.Core.List.{List}
use native.Mathlib.Omega.{arith}
use lib.ListN.{length}
use Rattle.determine_side_effects.specs.index_crate.declared.ModuleIdx.{ModuleIdx}
use Rattle.determine_side_effects.specs.index_crate.declared.StmtIdx.{StmtIdx}
use Rattle.determine_side_effects.specs.index_crate.declared.SymbolIdx.{SymbolIdx}
use Rattle.determine_side_effects.specs.facts_crate.declared.Reason.{Reason}
use Rattle.determine_side_effects.specs.facts_crate.declared.Fact.{Fact}
use Rattle.determine_side_effects.specs.facts_crate.declared.Fact.TheVariants.{Module, Statement, Use, CheckedUse, Forward, Bailout}
use Rattle.determine_side_effects.specs.facts_crate.Facts.{kind_of}
use Rattle.consequences.specs.Cursors.{segments_in, segment_in, Placed}
use Rattle.consequences.proofs.BySegment.{count_statement, count_checked, count_forward, count_bailout, rule_module, rule_use, rule_checked, rule_record, rule_reference, placed_other}
use Rattle.justification.specs.declared.Span.{Span}
use Rattle.justification.specs.Search.{SpanAt, RuleSpan}

-- the begin of a fact has no reference
pub placed_begin : (numbers : List ℕ) (f : Fact) (j place : ℕ) → j ≡ 0 → Placed numbers f j place
placed_begin numbers f j place z = record { known = λ m i k e q. absurd (omega (arith, z, q)) }

pub first_inside : (numbers : List ℕ) (f : Fact) (m : ModuleIdx) (i : StmtIdx) → f ≡ Statement m i → 0 < length (segments_in numbers f)
first_inside numbers f m i e = omega (arith, count_statement numbers f m i _ e refl)

-- all segments of the premise ascend by one from `first`
module _ (numbers : List ℕ) (f : Fact) (rule first count : ℕ) (r : Span) (s : SpanAt rule first count r) (n : count ≡ length (segments_in numbers f)) where
  ascending : ((j : ℕ) → j < length (segments_in numbers f) → first + j ≡ (segment_in numbers f j).rule) → kind_of f ≢ 2 → RuleSpan numbers f rule r
  ascending a k =
      record {
        inside = omega (arith, s.inside);
        of_rule = λ j b l. sym (a j (omega (arith, s.inside))) ∙ s.of_rule j b l;
        no_other = λ j l e. s.no_other j (omega arith) (a j l ∙ e);
        placed = placed_other numbers f r.from r.place k;
      }

module _ (numbers : List ℕ) (f : Fact) (rule count : ℕ) (r : Span) (n : count ≡ length (segments_in numbers f)) where
  pub span_module : (m : ModuleIdx) → f ≡ Module m → SpanAt rule 2 count r → RuleSpan numbers f rule r
  span_module m e s =
      let k : kind_of f ≡ 1 = ap kind_of e in
      ascending numbers f rule 2 count r s n (λ j l. omega (arith, (rule_module numbers f j l m e).0)) (λ z. omega (arith, k, z))

  pub span_use : (y : SymbolIdx) (x : Reason) → f ≡ Use y x → SpanAt rule 10 count r → RuleSpan numbers f rule r
  span_use y x e s =
      let k : kind_of f ≡ 3 = ap kind_of e in
      ascending numbers f rule 10 count r s n (λ j l. omega (arith, (rule_use numbers f j l y x e).0)) (λ z. omega (arith, k, z))

  pub span_checked : (y : SymbolIdx) (x : Reason) → f ≡ CheckedUse y x → SpanAt rule 9 count r → RuleSpan numbers f rule r
  span_checked y x e s =
      let k : kind_of f ≡ 4 = ap kind_of e in
      ascending numbers f rule 9 count r s n (λ j l. omega (arith, l, (rule_checked numbers f j l y x e).0, count_checked numbers f y x e)) (λ z. omega (arith, k, z))

  -- K8 has the segments of all references, K7 the one in front of them
  pub span_references : (m : ModuleIdx) (i : StmtIdx) → f ≡ Statement m i → rule ≡ 8 → r.from ≡ 1 → r.to ≡ count → Placed numbers f 1 r.place → RuleSpan numbers f rule r
  span_references m i e z a b p =
      record {
        inside = omega arith;
        of_rule = λ j x y. sym (rule_reference numbers f j (omega arith) m i e (λ q. omega arith)).0 ∙ sym z;
        no_other = λ j l q. (first-not j l q, omega arith);
        placed = rw a p;
      }
    where
      first-not : (j : ℕ) → j < length (segments_in numbers f) → (segment_in numbers f j).rule ≡ rule → r.from ≤ j
      first-not zero l q = absurd (omega (arith, (rule_record numbers f 0 l m i e refl).0))
      first-not (suc j) l q = omega arith

module _ (numbers : List ℕ) (f : Fact) (rule : ℕ) (r : Span) where
  pub span_record : (m : ModuleIdx) (i : StmtIdx) → f ≡ Statement m i → rule ≢ 8 → SpanAt rule 7 1 r → RuleSpan numbers f rule r
  span_record m i e z s =
      record {
        inside = omega (arith, s.inside, count_statement numbers f m i _ e refl);
        of_rule = λ j x y.
            let b : j ≡ 0 = omega (arith, s.inside) in
            sym (rule_record numbers f j (omega (arith, s.inside, count_statement numbers f m i _ e refl)) m i e b).0 ∙ (omega (arith, s.of_rule j x y));
        no_other = λ j l q. only-first j l q;
        placed = placed_begin numbers f r.from r.place (s.first_one (omega arith));
      }
    where
      only-first : (j : ℕ) → j < length (segments_in numbers f) → (segment_in numbers f j).rule ≡ rule → (r.from ≤ j) × (j < r.to)
      only-first zero l q = s.no_other 0 (omega arith) (omega (arith, (rule_record numbers f 0 l m i e refl).0))
      only-first (suc j) l q = absurd (z (omega (arith, (rule_reference numbers f (suc j) l m i e (λ x. omega arith)).0)))

  none : length (segments_in numbers f) ≡ 0 → kind_of f ≢ 2 → SpanAt rule 0 0 r → RuleSpan numbers f rule r
  none n k s = ascending numbers f rule 0 0 r s (sym n) (λ j l. absurd (omega arith)) k

  pub span_forward : (y : SymbolIdx) → f ≡ Forward y → SpanAt rule 0 0 r → RuleSpan numbers f rule r
  span_forward y e s = let k : kind_of f ≡ 5 = ap kind_of e in none (sym (count_forward numbers f y e)) (λ z. omega (arith, k, z)) s

  pub span_bailout : (m : ModuleIdx) → f ≡ Bailout m → SpanAt rule 0 0 r → RuleSpan numbers f rule r
  span_bailout m e s = let k : kind_of f ≡ 6 = ap kind_of e in none (sym (count_bailout numbers f m e)) (λ z. omega (arith, k, z)) s
