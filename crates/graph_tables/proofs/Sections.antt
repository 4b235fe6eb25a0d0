-- Places in a section of the tables, and the modules' section while those behind it are written.
use Prim.Native.Nat.{ℕ, ◌+◌, ◌<◌, ◌≤◌}
use mathlib.Core.Path.{◌≡◌, ap, ◌∙◌}
use mathlib.Core.List.{List}
use native.Mathlib.Nat.{add-zero}
use native.Mathlib.Omega.{arith}
use lib.ListN.{length, get_or}
use Rattle.tables.specs.rows_crate.Walk.{Item}
use Rattle.tables.specs.graph_format_crate.declared.Header.{Header}
use Rattle.tables.specs.Layout.{sizes, start_of, section, module_places, Laid, Inside, Kept}
use Rattle.tables.proofs.Sections.{inside, section_has, laid_kept, section_kept}
use Rattle.graph_tables.specs.Places.{Placed, ModuleTable}

-- places from word `base` of a section on
pub placed_section : {h : Header} {n : ℕ} {tables : List ℕ} (t : Laid h n tables) (k : ℕ) (l : k < n) (base : ℕ) (items : List Item) → base + length items ≤ get_or (sizes h) k 0
    → Placed (start_of h k + base) items tables → Placed base items (section k tables)
placed_section {h} {n} {tables} t k l base items fit p i b =
    let z : start_of h k + (base + i) ≡ start_of h k + base + i = omega arith in
    section_has t k l (base + i) (omega (arith, fit, b)) ∙ ap (λ j. get_or tables j 0) z ∙ p i b

-- places from its start on
pub placed_whole : {h : Header} {n : ℕ} {tables : List ℕ} (t : Laid h n tables) (k : ℕ) (l : k < n) (items : List Item) → length items ≤ get_or (sizes h) k 0
    → Placed (start_of h k) items tables → Placed 0 items (section k tables)
placed_whole {h} t k l items fit p = placed_section t k l 0 items (omega (arith, fit)) (rw (add-zero (start_of h k)) p)

module _ {h : Header} {n : ℕ} {xs ys : List ℕ} (t : Laid h n xs) (j : ℕ) (l : 0 < j) (b : j ≤ n) (q : Kept (start_of h j) xs ys) where
  pub modules_inside : Inside 0 ys
  modules_inside = inside (laid_kept t j b q) 0 (omega (arith, l, b))

  pub modules_kept : {numbers part : List ℕ} → ModuleTable numbers (module_places xs) → part ≡ module_places ys → ModuleTable numbers part
  modules_kept m e = rw (e ∙ section_kept t j b q 0 l) m
