-- The segments of a fact, by its kind.
use Prim.Native.Nat.{ℕ, zero, suc, ◌+◌, ◌-◌, ◌<◌, ◌≤◌}
use mathlib.Core.Path.{◌≡◌, refl, ap, ◌∙◌, sym, subst}
use mathlib.Core.Logic.{◌≢◌}
use mathlib.Core.Bool.{Bool, true, false}
use mathlib.Core.List.{List, [], ◌∷◌, map}
use native.Mathlib.Omega.{arith}
use lib.Seq.{drop-cons}
use lib.ListN.{length, get_or, drop, length-map}
use Rattle.determine_side_effects.specs.graph_tables_crate.Tables.{header_in}
use Rattle.determine_side_effects.specs.graph_crate.Check.{Graph, graph_in}
use Rattle.determine_side_effects.specs.graph_access_crate.Names.{references, statement_import_records}
use Rattle.determine_side_effects.specs.graph_access_crate.References.{reference_width, ReferenceAt, ReferencesAt}
use Rattle.determine_side_effects.specs.index_crate.declared.ModuleIdx.{ModuleIdx}
use Rattle.determine_side_effects.specs.index_crate.declared.StmtIdx.{StmtIdx}
use Rattle.determine_side_effects.specs.index_crate.declared.SymbolIdx.{SymbolIdx}
use Rattle.determine_side_effects.specs.facts_crate.declared.Reason.{Reason}
use Rattle.determine_side_effects.specs.facts_crate.declared.Fact.{Fact}
use Rattle.determine_side_effects.specs.facts_crate.declared.Fact.TheVariants.{Module, Statement, Use, CheckedUse, Forward, Bailout}
use Rattle.determine_side_effects.specs.facts_crate.Facts.{Good, kind_of, first_part, second_part}
use Rattle.determine_side_effects.specs.graph_access_crate.Words.{normal, statement_list, statement_of}
use Rattle.determine_side_effects.specs.Effects.{last_verdicts}
use Rattle.keep_rules.specs.Rules.{Segment, segment, no_segment, segments_of, quiet_runtime, bypassed, module_segments, import_record_candidate, reason_of, reference_segment, statement_segments, checked_candidate, use_segments}
use Rattle.include_statement.specs.Here.{Here}
use Rattle.consequences.specs.Cursors.{segments_in, segment_in, Placed}

unless : Bool → List Segment → List Segment
unless b ss = elim b [ true ↦ [] | false ↦ ss ]

unless_some : (b : Bool) (ss : List Segment) → 0 < length (unless b ss) → unless b ss ≡ ss
unfolding unless
unless_some true ss l = absurd (omega (arith, l))
unless_some false ss l = refl

map_at : (h : List ℕ → Segment) (rows : List (List ℕ)) (k : ℕ) → k < length rows → get_or (map h rows) k no_segment ≡ h (get_or rows k [])
map_at h [] k l = absurd (omega (arith, l))
map_at h (row ∷ rows) zero l = refl
map_at h (row ∷ rows) (suc k) l = map_at h rows k (omega (arith, l))

module_rule : (g : Graph) (v : List ℕ) (m j : ℕ) → j < 5 → j + 2 ≡ (get_or (module_segments g v m) j no_segment).rule
unfolding module_segments
module_rule g v m zero l = refl
module_rule g v m (suc zero) l = refl
module_rule g v m (suc (suc zero)) l = refl
module_rule g v m (suc (suc (suc zero))) l = refl
module_rule g v m (suc (suc (suc (suc zero)))) l = refl
module_rule g v m (suc (suc (suc (suc (suc j))))) l = absurd (omega (arith, l))

use_rule : (g : Graph) (v : List ℕ) (s x j : ℕ) → j < 5 → j + 10 ≡ (get_or (use_segments g v s x) j no_segment).rule
unfolding use_segments
use_rule g v s x zero l = refl
use_rule g v s x (suc zero) l = refl
use_rule g v s x (suc (suc zero)) l = refl
use_rule g v s x (suc (suc (suc zero))) l = refl
use_rule g v s x (suc (suc (suc (suc zero)))) l = refl
use_rule g v s x (suc (suc (suc (suc (suc j))))) l = absurd (omega (arith, l))

-- how many there are
module _ (numbers : List ℕ) (f : Fact) where
  pub count_quiet : (m : ModuleIdx) → f ≡ Module m → quiet_runtime (graph_in numbers) (last_verdicts (graph_in numbers)) m.0 ≡ true → 0 ≡ length (segments_in numbers f)
  unfolding segments_in segments_of
  count_quiet m e b = rw (e, b, segments_of)

  pub count_module : (m : ModuleIdx) → f ≡ Module m → quiet_runtime (graph_in numbers) (last_verdicts (graph_in numbers)) m.0 ≡ false → 5 ≡ length (segments_in numbers f)
  unfolding segments_in segments_of module_segments
  count_module m e b = rw (e, b, segments_of)

  pub count_statement : (m : ModuleIdx) (i : StmtIdx) (n : ℕ) → f ≡ Statement m i → n ≡ length (references (statement_of (graph_in numbers) m.0 i.0)) → 1 + n ≡ length (segments_in numbers f)
  unfolding segments_in segments_of statement_segments
  count_statement m i n e q =
      let r = length-map (references (statement_of (graph_in numbers) m.0 i.0)) (reference_segment (graph_in numbers) (reason_of (graph_in numbers) m.0 i.0)) in
      rw e (omega (arith, q, r))

  pub count_checked : (s : SymbolIdx) (x : Reason) → f ≡ CheckedUse s x → 1 ≡ length (segments_in numbers f)
  unfolding segments_in segments_of
  count_checked s x e = rw e

  pub count_bypassed : (s : SymbolIdx) (x : Reason) → f ≡ Use s x → bypassed (graph_in numbers) s.0 x.bits ≡ true → 0 ≡ length (segments_in numbers f)
  unfolding segments_in segments_of
  count_bypassed s x e b = rw (e, b, segments_of)

  pub count_use : (s : SymbolIdx) (x : Reason) → f ≡ Use s x → bypassed (graph_in numbers) s.0 x.bits ≡ false → 5 ≡ length (segments_in numbers f)
  unfolding segments_in segments_of use_segments
  count_use s x e b = rw (e, b, segments_of)

  pub count_forward : (s : SymbolIdx) → f ≡ Forward s → 0 ≡ length (segments_in numbers f)
  unfolding segments_in segments_of
  count_forward s e = rw e

  pub count_bailout : (m : ModuleIdx) → f ≡ Bailout m → 0 ≡ length (segments_in numbers f)
  unfolding segments_in segments_of
  count_bailout m e = rw e

-- segment j
module _ (numbers : List ℕ) (f : Fact) (j : ℕ) (l : j < length (segments_in numbers f)) where
  of_module : (m : ModuleIdx) → f ≡ Module m → segments_in numbers f ≡ module_segments (graph_in numbers) (last_verdicts (graph_in numbers)) m.0
  unfolding segments_in segments_of unless
  of_module m e =
      let o : 0 < length (segments_in numbers f) = omega (arith, l) in
      let n : 0 < length (segments_in numbers (Module m)) = rw e at o in
      rw e (unless_some (quiet_runtime (graph_in numbers) (last_verdicts (graph_in numbers)) m.0) _ n)

  of_use : (s : SymbolIdx) (x : Reason) → f ≡ Use s x → segments_in numbers f ≡ use_segments (graph_in numbers) (last_verdicts (graph_in numbers)) s.0 x.bits
  unfolding segments_in segments_of unless
  of_use s x e =
      let o : 0 < length (segments_in numbers f) = omega (arith, l) in
      let n : 0 < length (segments_in numbers (Use s x)) = rw e at o in
      rw e (unless_some (bypassed (graph_in numbers) s.0 x.bits) _ n)

  pub module_five : (m : ModuleIdx) → f ≡ Module m → j < 5
  unfolding module_segments
  module_five m e = omega (arith, l, ap length (of_module m e))

  pub segment_module : (m : ModuleIdx) → f ≡ Module m → segment_in numbers f j ≡ get_or (module_segments (graph_in numbers) (last_verdicts (graph_in numbers)) m.0) j no_segment
  unfolding segment_in
  segment_module m e = rw (of_module m e)

  pub rule_module : (m : ModuleIdx) → f ≡ Module m → (j + 2 ≡ (segment_in numbers f j).rule) × (j + 2 < 15)
  rule_module m e = (rw (segment_module m e) (module_rule _ _ _ j (module_five m e)), omega (arith, module_five m e))

  pub use_five : (s : SymbolIdx) (x : Reason) → f ≡ Use s x → j < 5
  unfolding use_segments
  use_five s x e = omega (arith, l, ap length (of_use s x e))

  pub segment_use : (s : SymbolIdx) (x : Reason) → f ≡ Use s x → segment_in numbers f j ≡ get_or (use_segments (graph_in numbers) (last_verdicts (graph_in numbers)) s.0 x.bits) j no_segment
  unfolding segment_in
  segment_use s x e = rw (of_use s x e)

  pub rule_use : (s : SymbolIdx) (x : Reason) → f ≡ Use s x → (j + 10 ≡ (segment_in numbers f j).rule) × (j + 10 < 15)
  rule_use s x e = (rw (segment_use s x e) (use_rule _ _ _ _ j (use_five s x e)), omega (arith, use_five s x e))

  pub segment_checked : (s : SymbolIdx) (x : Reason) → f ≡ CheckedUse s x → segment_in numbers f j ≡ segment 9 4 (checked_candidate (graph_in numbers) s.0 x.bits)
  unfolding segment_in segments_in segments_of
  segment_checked s x e = let z : j ≡ 0 = omega (arith, l, count_checked numbers f s x e) in rw (e, z)

  pub rule_checked : (s : SymbolIdx) (x : Reason) → f ≡ CheckedUse s x → (9 ≡ (segment_in numbers f j).rule) × (9 < 15)
  rule_checked s x e = (rw (segment_checked s x e), omega arith)

  pub segment_record : (m : ModuleIdx) (i : StmtIdx) → f ≡ Statement m i → j ≡ 0
      → segment_in numbers f j ≡ segment 7 (length (statement_import_records (statement_of (graph_in numbers) m.0 i.0))) (import_record_candidate (graph_in numbers) (last_verdicts (graph_in numbers)) m.0 i.0)
  unfolding segment_in segments_in segments_of statement_segments
  segment_record m i e z = rw (e, z)

  pub rule_record : (m : ModuleIdx) (i : StmtIdx) → f ≡ Statement m i → j ≡ 0 → (7 ≡ (segment_in numbers f j).rule) × (7 < 15)
  rule_record m i e z = (rw (segment_record m i e z), omega arith)

  reference_inside : (m : ModuleIdx) (i : StmtIdx) → f ≡ Statement m i → j ≢ 0 → j - 1 < length (references (statement_of (graph_in numbers) m.0 i.0))
  reference_inside m i e z = omega (arith, l, z, count_statement numbers f m i _ e refl)

  pub segment_reference : (m : ModuleIdx) (i : StmtIdx) → f ≡ Statement m i → j ≢ 0
      → segment_in numbers f j ≡ reference_segment (graph_in numbers) (reason_of (graph_in numbers) m.0 i.0) (get_or (references (statement_of (graph_in numbers) m.0 i.0)) (j - 1) [])
  unfolding segment_in segments_in segments_of statement_segments
  segment_reference m i e z =
      let n : j ≡ suc (j - 1) = omega (arith, z) in
      rw (e, ap (λ k. get_or (segments_in numbers (Statement m i)) k no_segment) n) (map_at (reference_segment (graph_in numbers) (reason_of (graph_in numbers) m.0 i.0)) (references (statement_of (graph_in numbers) m.0 i.0)) (j - 1) (reference_inside m i e z))

  pub rule_reference : (m : ModuleIdx) (i : StmtIdx) → f ≡ Statement m i → j ≢ 0 → (8 ≡ (segment_in numbers f j).rule) × (8 < 15)
  unfolding reference_segment
  rule_reference m i e z = (rw (segment_reference m i e z), omega arith)

  pub none_forward : (s : SymbolIdx) → f ≡ Forward s → ⊥
  none_forward s e = omega (arith, l, count_forward numbers f s e)

  pub none_bailout : (m : ModuleIdx) → f ≡ Bailout m → ⊥
  none_bailout m e = omega (arith, l, count_bailout numbers f m e)

-- a good fact's indexes
module _ (numbers : List ℕ) (f : Fact) (h : Good (graph_in numbers) f) where
  pub good_module : (m : ModuleIdx) → f ≡ Module m → (m.0 < (header_in numbers).modules) × (normal (graph_in numbers) m.0 ≡ true)
  unfolding graph_in
  good_module m e = subst (λ x. Good (graph_in numbers) x) e h

  pub good_statement : (m : ModuleIdx) (i : StmtIdx) → f ≡ Statement m i → (m.0 < (header_in numbers).modules) × (i.0 < length (statement_list (graph_in numbers) m.0))
  unfolding graph_in
  good_statement m i e = subst (λ x. Good (graph_in numbers) x) e h

  pub good_use : (s : SymbolIdx) (x : Reason) → f ≡ Use s x → (s.0 < (header_in numbers).symbols) × (0 < x.bits) × (x.bits < 32)
  unfolding graph_in
  good_use s x e = subst (λ y. Good (graph_in numbers) y) e h

  pub good_checked : (s : SymbolIdx) (x : Reason) → f ≡ CheckedUse s x → (s.0 < (header_in numbers).symbols) × (0 < x.bits) × (x.bits < 32)
  unfolding graph_in
  good_checked s x e = subst (λ y. Good (graph_in numbers) y) e h

-- where references stand
module _ (numbers : List ℕ) (p k : ℕ) (rows : List (List ℕ)) (l : k < length rows) (r : ReferencesAt numbers p (drop k rows)) where
  stand : ReferenceAt numbers p (get_or rows k []) × ReferencesAt numbers (p + reference_width numbers p) (drop (suc k) rows)
  stand = subst (λ x. ReferencesAt numbers p x) (drop-cons rows k [] l) r

module _ (numbers : List ℕ) (f : Fact) (j place : ℕ) (m : ModuleIdx) (i : StmtIdx) (e : f ≡ Statement m i) where
  pub placed_first : ReferencesAt numbers place (references (statement_of (graph_in numbers) m.0 i.0)) → j ≡ 0 → Placed numbers f (j + 1) place
  placed_first r z =
      record {
        known = λ m' i' k q n.
            let a : m.0 ≡ m'.0 = ap first_part (sym e ∙ q) in
            let b : i.0 ≡ i'.0 = ap second_part (sym e ∙ q) in
            let d : k ≡ 0 = omega (arith, z, n) in
            rw (sym a, sym b, d) r;
      }

  module _ (l : j < length (segments_in numbers f)) (z : j ≢ 0) (p : Placed numbers f j place) where
    stands : ReferenceAt numbers place (get_or (references (statement_of (graph_in numbers) m.0 i.0)) (j - 1) []) × ReferencesAt numbers (place + reference_width numbers place) (drop (suc (j - 1)) (references (statement_of (graph_in numbers) m.0 i.0)))
    stands = stand numbers place (j - 1) _ (reference_inside numbers f j l m i e z) (p.known m i (j - 1) e (omega (arith, z)))

    pub width_inside : place + reference_width numbers place ≤ length numbers
    width_inside = stands.0.inside

    pub placed-next : Placed numbers f (j + 1) (place + reference_width numbers place)
    placed-next =
        record {
          known = λ m' i' k q n.
              let a : m.0 ≡ m'.0 = ap first_part (sym e ∙ q) in
              let b : i.0 ≡ i'.0 = ap second_part (sym e ∙ q) in
              let d : k ≡ suc (j - 1) = omega (arith, z, n) in
              rw (sym a, sym b, d) stands.1;
        }

    pub here : Good (graph_in numbers) f → Here numbers m.0 i.0 (j - 1) place
    unfolding graph_in
    here h =
        record {
          module_inside = (good_statement numbers f h m i e).0;
          statement_inside = (good_statement numbers f h m i e).1;
          reference_inside = reference_inside numbers f j l m i e z;
          stands = stands.0;
        }

-- other facts have no references
pub placed_other : (numbers : List ℕ) (f : Fact) (j place : ℕ) → kind_of f ≢ 2 → Placed numbers f j place
placed_other numbers f j place n = record { known = λ m i k e q. absurd (n (ap kind_of e)) }
