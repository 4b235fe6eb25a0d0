-- The work: the rows that it begins with, and what it leaves.
use Prim.Native.Nat.{ℕ, ◌+◌, ◌*◌, ◌≤◌}
use mathlib.Core.Path.{◌≡◌, ap, ◌∙◌, sym}
use mathlib.Core.List.{List, []}
use native.Mathlib.Omega.{arith}
use lib.ListN.{length, get_or, replicate, length-replicate}
use Rattle.bit_row.specs.Row.{bytes_for}
use Rattle.determine_side_effects.specs.graph_crate.Check.{Graph}
use Rattle.determine_side_effects.specs.facts_crate.Facts.{mark_count}
use Rattle.keep_record.specs.declared.Line.{Line}
use Rattle.keep_record.specs.Held.{Held, Grown}
use Rattle.keep_record.proofs.Rows.{held_cleared}
use Rattle.worklist.specs.Drain.{module_line}
use Rattle.worklist.specs.Links.{first_forward, last_forward, Linked}
use Rattle.drain_parts.specs.Parts.{Worked}
use Rattle.std.specs.Prelude.{Result, Ok}
use Rattle.keep_record.specs.declared.Full.{Full}
use Rattle.keep_record.specs.Held.{no_room}

pub linked_none : (g : Graph) (links : List ℕ) → 3 * g.header.modules + g.header.symbols ≤ length links → ((i : ℕ) → get_or links i 0 ≡ 0) → Linked g 0 links []
unfolding module_line first_forward last_forward
linked_none g links h z =
    record {
      long = h;
      module_lines = λ m l. z m;
      firsts = λ m l. z (g.header.modules + m);
      lasts = λ m l. z (2 * g.header.modules + m);
      nexts = λ k s b l e. absurd (omega (arith, l));
    }

pub held_start : (g : Graph) (marks₀ row₀ marks row : List ℕ) → bytes_for (mark_count g) ≤ length marks₀ → marks ≡ replicate (length marks₀) 0 → row ≡ replicate (length row₀) 0
    → Held g 0 marks row 0
unfolding bytes_for
held_start g marks₀ row₀ marks row h e z =
    held_cleared g marks row (length marks₀) (length row₀) (omega (arith, h, ap length e, length-replicate {A = ℕ} (length marks₀) 0)) e z

clash : {c : ℕ} → ◌≡◌ {A = Result ℕ Full} (Ok c) no_room → ⊥
clash e = cc

module _ (g : Graph) (lines : List Line) (marks₀ row₀ marks₁ row₁ : List ℕ) (r : Result ℕ Full) (grown : Grown g 0 lines marks₁ row₁ r) where
  pub work_holds : (n : ℕ) → r ≡ Ok n → Worked g lines marks₀ row₀ marks₁ row₁ (Ok n)
  work_holds n e = record { holds = λ c q. grown.held c (e ∙ q); too_long = λ q. absurd (clash q) }

  pub work_full : (marks row : List ℕ) → r ≡ no_room → length marks₁ ≡ length marks₀ → length row₁ ≡ length row₀ → marks ≡ replicate (length marks₁) 0 → row ≡ replicate (length row₁) 0
      → Worked g lines marks₀ row₀ marks row no_room
  work_full marks row e a b m n =
      record {
        holds = λ c q. absurd (clash (sym q));
        too_long = λ q. (omega (arith, grown.full e, b), m ∙ ap (λ k. replicate k 0) a, n ∙ ap (λ k. replicate k 0) b);
      }
