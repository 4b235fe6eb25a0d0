-- The table of K1's partners without its forwards.
use Prim.Native.Nat.{ℕ, ◌+◌, ◌*◌, ◌<◌, ◌≤◌}
use mathlib.Core.Path.{◌≡◌, refl, ap, ◌∙◌, sym}
use mathlib.Core.List.{List, []}
use native.Mathlib.Decide.{ℕ_discrete}
use native.Mathlib.Omega.{arith}
use lib.ListN.{length, get_or, set, drop, length-set, drop_of_length-le}
use lib.Seq.{get_or-set_same, get_or-set_other}
use Rattle.facts.specs.graph_format_crate.declared.Header.{Header}
use Rattle.facts.specs.graph_tables_crate.Tables.{header_in}
use Rattle.facts.specs.graph_crate.Check.{Graph, graph_in}
use Rattle.keep_record.specs.declared.Line.{Line}
use Rattle.worklist.specs.Links.{first_forward, last_forward, Linked, firsts_at, nexts_at}

-- In the loop: words from `from` up to i are zero, all others as they were.
pub record Zeroing (from : ℕ) (old new : List ℕ) (i : ℕ) : Type 0 where
  pub same_length : length new ≡ length old
  pub begun : from ≤ i
  pub before : (j : ℕ) → j < from → get_or new j 0 ≡ get_or old j 0
  pub zeros : (j : ℕ) → from ≤ j → j < i → get_or new j 0 ≡ 0

module _ (from : ℕ) (old : List ℕ) where
  pub zeroing_none : Zeroing from old old from
  zeroing_none = record { same_length = refl; begun = omega arith; before = λ j l. refl; zeros = λ j a b. absurd (omega arith) }

  pub zeroing_more : (new : List ℕ) (i : ℕ) → Zeroing from old new i → i < length new → Zeroing from old (set new i 0) (i + 1)
  zeroing_more new i z l =
      record {
        same_length = length-set new i 0 ∙ z.same_length;
        begun = omega (arith, z.begun);
        before = λ j h. get_or-set_other new i j 0 0 (λ e. omega (arith, z.begun, e, h)) ∙ z.before j h;
        zeros = λ j a b. go j a b (ℕ_discrete j i);
      }
    where
      go : (j : ℕ) → from ≤ j → j < i + 1 → Dec (j ≡ i) → get_or (set new i 0) j 0 ≡ 0
      go j a b (yes e) = ap (λ k. get_or (set new i 0) k 0) e ∙ get_or-set_same new i 0 0 l
      go j a b (no e) = get_or-set_other new i j 0 0 e ∙ z.zeros j a (omega (arith, b, e))

-- the header that the code reads is the graph's
pub modules_are : (numbers : List ℕ) (h : Header) → h ≡ header_in numbers → h.modules ≡ (graph_in numbers).header.modules
unfolding graph_in
modules_are numbers h e = ap (λ (x : Header). x.modules) e

-- no lines of the new stage, so no forwards
pub stage_linked : (g : Graph) (count : ℕ) (old new : List ℕ) (lines : List Line) (from to : ℕ) → from ≡ firsts_at g.header → to ≡ nexts_at g.header → length lines ≡ count → Linked g 0 old lines → length new ≡ length old
    → ((i : ℕ) → i < from → get_or new i 0 ≡ get_or old i 0) → ((i : ℕ) → from ≤ i → i < to → get_or new i 0 ≡ 0)
    → Linked g count new lines
unfolding first_forward last_forward
stage_linked g count old new lines from to e f size k same front zeros =
    let over : length lines ≤ count = omega arith in
    let none : drop count lines ≡ [] = drop_of_length-le lines over in
    record {
      long = omega (arith, k.long);
      module_lines = λ m l. front m (omega arith) ∙ k.module_lines m l;
      firsts = λ m l. zeros (g.header.modules + m) (omega arith) (omega arith) ∙ sym (ap (λ (ls : List Line). first_forward g m count ls) none);
      lasts = λ m l. zeros (2 * g.header.modules + m) (omega arith) (omega arith) ∙ sym (ap (λ (ls : List Line). last_forward g m 0 count ls) none);
      nexts = λ i s a b _. absurd (omega arith);
    }
