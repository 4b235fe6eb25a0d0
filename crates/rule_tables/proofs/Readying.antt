-- The tables of an operation, and what the check's answer says of a definition by cases of it.
use Prim.Native.Nat.{ℕ, ◌<◌, ◌≤◌}
use mathlib.Core.Path.{◌≡◌, refl, ap, ◌∙◌, sym}
use mathlib.Core.List.{List}
use native.Mathlib.Omega.{arith}
use lib.ListN.{length}
use Rattle.determine_side_effects.specs.rows_crate.Walk.{Parsed, got, fault}
use Rattle.determine_side_effects.specs.tables_crate.Layout.{start_of, Laid, at_verdicts, all_sections}
use Rattle.determine_side_effects.proofs.tables_crate.Sections.{start_mono, laid_more}
use Rattle.determine_side_effects.specs.graph_format_crate.declared.Header.{Header}
use Rattle.determine_side_effects.specs.graph_tables_crate.Tables.{header_in}
use Rattle.determine_side_effects.specs.graph_crate.Check.{Graph, graph_in, check_of, answer_of}
use Rattle.determine_side_effects.specs.graph_crate.Loaded.{Loaded}
use Rattle.determine_side_effects.proofs.graph_crate.Checking.{once_refused}
use Rattle.determine_side_effects.proofs.graph_crate.WellFormed.{accepted_is}
use Rattle.determine_side_effects.specs.facts_crate.Facts.{mark_count}
use Rattle.std.specs.Prelude.{Ok, Err}
use Rattle.determine_side_effects.specs.refusal_crate.declared.Refusal.{Refusal}

-- the tables of a graph that is loaded, by all sections
pub all_laid : (numbers tables : List ℕ) (h : Header) (n : ℕ) → h ≡ header_in numbers → Loaded numbers tables → length tables ≡ n → start_of h all_sections ≤ n → Laid (header_in numbers) all_sections tables
all_laid numbers tables h n e l k b = let s : start_of h all_sections ≡ start_of (header_in numbers) all_sections = ap (λ w. start_of w all_sections) e in laid_more l.laid 10 (omega arith) (omega (arith, s, k, b))

pub places_fit : (h : Header) (n : ℕ) → start_of h all_sections ≤ n → start_of h at_verdicts ≤ n
places_fit h n b = let m : start_of h at_verdicts ≤ start_of h all_sections = start_mono h 5 10 (omega arith) in omega (arith, m, b)

-- so many marks are few
pub few_marks : (numbers tables : List ℕ) → Loaded numbers tables → mark_count (graph_in numbers) < 4294967296
unfolding mark_count graph_in
few_marks numbers tables l = omega (arith, l.few_modules, l.few_symbols, l.few_statements)

-- how an operation ends is told by the check's answer first
module _ {A : Type 0} (numbers : List ℕ) (on : Graph → A) (off : Refusal → A) where
  abbrev by_check : Parsed Graph → A
  by_check x = elim x [ got g q ↦ on g | fault why ↦ off why ]

  pub by_refusal : {why : Refusal} → answer_of (check_of numbers) ≡ Err why → by_check (check_of numbers) ≡ off why
  unfolding answer_of
  by_refusal {why} e = go (check_of numbers) refl
    where
      go : (x : Parsed Graph) → check_of numbers ≡ x → by_check (check_of numbers) ≡ off why
      go (got g q) i = absurd ((once_refused ⊥).known (sym e ∙ ap answer_of i))
      go (fault q) i =
          let f : Err q ≡ Err why = sym (ap answer_of i) ∙ e in
          let b : off q ≡ off why = cc in
          ap by_check i ∙ b

  pub by_graph : answer_of (check_of numbers) ≡ Ok tt → by_check (check_of numbers) ≡ on (graph_in numbers)
  by_graph e = ap by_check (accepted_is numbers e).1
