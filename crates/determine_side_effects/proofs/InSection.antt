-- Words written into a section of the tables, and the section of the verdicts.
-- What is written behind that section leaves it (`settled_kept`).
use Prim.Native.Nat.{ℕ, ◌+◌, ◌<◌, ◌≤◌}
use mathlib.Core.Path.{◌≡◌, ap, ◌∙◌, sym}
use mathlib.Core.List.{List}
use native.Mathlib.Omega.{arith}
use lib.ListN.{length, get_or, set}
use Rattle.facts.specs.graph_format_crate.declared.Header.{Header}
use Rattle.facts.specs.tables_crate.Layout.{sizes, start_of, section, Laid, Kept, verdicts_in, at_verdicts, at_on_demand}
use Rattle.facts.proofs.tables_crate.Sections.{ends_inside, section-length, section_has, section_kept, kept_set, laid_kept, laid_more, laid_less}
use Rattle.facts.proofs.tables_crate.Writing.{section-set}
use Rattle.facts.specs.graph_tables_crate.Tables.{header_in}
use Rattle.facts.specs.graph_crate.Check.{HeaderRead}
use Rattle.facts.specs.graph_crate.Loaded.{Loaded}
use Rattle.facts.proofs.graph_crate.Kept.{loaded_kept}
use Rattle.determine_side_effects.specs.Tabled.{HasVerdicts, Settled}

-- word i of section k is written, where nothing in front of the section was
module _ {h : Header} {n : ℕ} {xs ys : List ℕ} (t : Laid h n xs) (k : ℕ) (l : k < n) (q : Kept (start_of h k) xs ys) (i : ℕ) (b : i < get_or (sizes h) k 0) where
  base : get_or xs k 0 ≡ start_of h k
  base = t.starts k (omega (arith, l, t.known))

  pub word_fits : get_or xs k 0 + i < length ys
  word_fits = omega (arith, base, b, ends_inside t k l, q.same_length)

  pub kept_written : (x : ℕ) → Kept (start_of h k) xs (set ys (get_or xs k 0 + i) x)
  kept_written x = kept_set (start_of h k) (get_or xs k 0 + i) x (omega (arith, base)) q

  pub section_written : (x : ℕ) → section k (set ys (get_or xs k 0 + i) x) ≡ set (section k ys) i x
  section_written x = ap (λ at. section k (set ys (at + i) x)) base ∙ section-set (laid_kept t k (omega (arith, l)) q) k l i x b

  pub word_read : get_or ys (get_or xs k 0 + i) 0 ≡ get_or (section k ys) i 0
  word_read = ap (λ at. get_or ys (at + i) 0) base ∙ sym (section_has (laid_kept t k (omega (arith, l)) q) k l i b)

-- a verdict for each module
pub verdicts_long : {h : Header} {tables : List ℕ} → Laid h at_on_demand tables → length (verdicts_in tables) ≡ h.modules
unfolding sizes
verdicts_long t = section-length t 5 (omega arith)

-- where verdicts were written
pub verdicts_kept : {numbers xs ys : List ℕ} → HasVerdicts numbers xs → Kept (start_of (header_in numbers) at_verdicts) xs ys → HasVerdicts numbers ys
verdicts_kept o q = record { loaded = loaded_kept o.loaded 5 (omega arith) o.loaded.laid q; laid = laid_kept o.laid 5 (omega arith) q }

-- the graph is loaded into tables with room for the verdicts
pub verdicts_fit : {numbers after : List ℕ} {h : Header} {n : ℕ} → HeaderRead numbers h → start_of h at_on_demand ≤ n → length after ≡ n → Loaded numbers after → HasVerdicts numbers after
verdicts_fit r f e o = record { loaded = o; laid = laid_more o.laid 6 (omega arith) (omega (arith, f, e, ap (λ q. start_of q at_on_demand) r.is)) }

-- where only sections behind the verdicts were written
pub settled_kept : {numbers xs ys : List ℕ} → Settled numbers xs → (j : ℕ) → 6 ≤ j → Laid (header_in numbers) j xs → Kept (start_of (header_in numbers) j) xs ys → Settled numbers ys
settled_kept s j l t q =
    let b : j ≤ j = omega arith in
    record { laid = laid_less l (laid_kept t j b q); are_last = section_kept t j b q 5 (omega (arith, l)) ∙ s.are_last }
