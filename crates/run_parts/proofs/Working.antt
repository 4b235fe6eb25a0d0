-- The work: the rows that it begins with, and what it leaves.
use Prim.Native.Nat.{ℕ, ◌+◌, ◌*◌, ◌≤◌}
use mathlib.Core.Path.{◌≡◌, ap, ◌∙◌}
use mathlib.Core.List.{List, []}
use native.Mathlib.Omega.{arith}
use lib.ListN.{length, get_or, replicate, length-replicate}
use Rattle.bit_row.specs.Row.{bytes_for}
use Rattle.determine_side_effects.specs.graph_crate.Check.{Graph}
use Rattle.determine_side_effects.specs.facts_crate.Facts.{mark_count}
use Rattle.keep_record.specs.Held.{Held}
use Rattle.keep_record.proofs.Rows.{no_lines, held_cleared}
use Rattle.worklist.specs.Drain.{module_line}
use Rattle.worklist.specs.Links.{first_forward, last_forward, Linked}
use Rattle.entry_starts.specs.Working.{Working}
use Rattle.tree_shaking.specs.declared.Reached.{Reached}
use Rattle.run_parts.specs.declared.Part.{Part}
use Rattle.run_parts.specs.Parts.{StagesEnd, WorkEnds}
use Rattle.std.specs.Prelude.{Result, Ok}
use Rattle.keep_record.specs.declared.Full.{Full}
use Rattle.keep_record.specs.Held.{no_room}

linked_none : (g : Graph) (links : List ℕ) → 3 * g.header.modules + g.header.symbols ≤ length links → ((i : ℕ) → get_or links i 0 ≡ 0) → Linked g 0 links []
unfolding module_line first_forward last_forward
linked_none g links h z =
    record {
      long = h;
      module_lines = λ m l. z m;
      firsts = λ m l. z (g.header.modules + m);
      lasts = λ m l. z (2 * g.header.modules + m);
      nexts = λ k s b l e. absurd (omega (arith, l));
    }

held_start : (g : Graph) (marks₀ row₀ marks row : List ℕ) → bytes_for (mark_count g) ≤ length marks₀ → marks ≡ replicate (length marks₀) 0 → row ≡ replicate (length row₀) 0
    → Held g 0 marks row 0
unfolding bytes_for
held_start g marks₀ row₀ marks row h e z =
    held_cleared g marks row (length marks₀) (length row₀) (omega (arith, h, ap length e, length-replicate {A = ℕ} (length marks₀) 0)) e z

-- cleared rows and partners hold no lines
pub working_start : (g : Graph) (marks₀ row₀ partners marks row : List ℕ) → bytes_for (mark_count g) ≤ length marks₀ → 3 * g.header.modules + g.header.symbols ≤ length partners
    → ((i : ℕ) → get_or partners i 0 ≡ 0) → marks ≡ replicate (length marks₀) 0 → row ≡ replicate (length row₀) 0 → Working g 0 partners marks row 0
working_start g marks₀ row₀ partners marks row h l z a b =
    record {
      held = held_start g marks₀ row₀ marks row h a b;
      linked = rw (no_lines row) (linked_none g partners l z);
    }

module _ (g : Graph) (part : Part) (marks₀ row₀ marks₁ row₁ plan : List ℕ) (r : Result Reached Full) (s : StagesEnd g part marks₁ row₁ plan r) where
  pub work_holds : {x : Reached} → r ≡ Ok x → WorkEnds g part marks₀ row₀ marks₁ row₁ plan (Ok x)
  work_holds e = record { holds = λ y q. s.holds y (e ∙ q); too_long = λ q. let z : ◌≡◌ {A = ℕ} 0 1 = cc in absurd (omega arith) }

  pub work_short : (marks row : List ℕ) → r ≡ no_room → length marks₁ ≡ length marks₀ → length row₁ ≡ length row₀ → marks ≡ replicate (length marks₁) 0 → row ≡ replicate (length row₁) 0
      → WorkEnds g part marks₀ row₀ marks row plan no_room
  work_short marks row e a b m n =
      record {
        holds = λ x q. let z : ◌≡◌ {A = ℕ} 0 1 = cc in absurd (omega arith);
        too_long = λ q. (omega (arith, s.too_long e, b), m ∙ ap (λ k. replicate k 0) a, n ∙ ap (λ k. replicate k 0) b);
      }
