-- The starts that are noted from what the main part leaves: counted first, and written if there is room.
use Prim.Native.Nat.{ℕ, ◌*◌, ◌<◌, ◌≤◌}
use mathlib.Core.Path.{◌≡◌, refl, ap, ◌∙◌, sym, subst}
use mathlib.Core.Bool.{false}
use mathlib.Core.List.{List, [], ◌++◌}
use native.Mathlib.Omega.{arith}
use lib.ListN.{length, take, drop, length-replicate}
use Rattle.bit_row.specs.Row.{bit_at, cleared}
use Rattle.bit_row.proofs.Cleared.{zeros_unset}
use Rattle.facts.specs.graph_crate.Check.{Graph}
use Rattle.facts.specs.declared.Fact.{Fact}
use Rattle.facts.specs.Facts.{Good, mark_count}
use Rattle.keep_record.specs.Lines.{elem}
use Rattle.keep_record.specs.Held.{line_at, lines_of}
use Rattle.keep_record.proofs.Rows.{lines-take, cleared_whole}
use Rattle.entry_order.specs.Plan.{live_in}
use Rattle.tree_shaking.specs.declared.Reached.{Reached}
use Rattle.tree_shaking.specs.Own.{starts_by_kind}
use Rattle.run_rows.specs.Run.{run_of}
use Rattle.own_starts.specs.Once.{notes, once, triples}
use Rattle.own_starts.specs.Noting.{Noting, Noted, Notes}
use Rattle.run_starts.specs.Operation.{own_by_kind, own_starts_once}
use Rattle.run_starts.specs.Parts.{MainReached, Given}
use Rattle.std.specs.Prelude.{Ok, Err}
use Rattle.facts.specs.refusal_crate.declared.Refusal.TheVariants.{NoRoom}

-- marks that are wide enough and hold none
abbrev pub Unmarked : Graph → List ℕ → Type 0
Unmarked g seen = (mark_count g ≤ 8 * length seen) × ((j : ℕ) → bit_at seen j ≡ false)

pub cleared_again : (g : Graph) (seen₀ seen₁ seen : List ℕ) → mark_count g ≤ 8 * length seen₀ → length seen₁ ≡ length seen₀ → seen ≡ cleared (length seen₁) seen₁ → Unmarked g seen
cleared_again g seen₀ seen₁ seen w l e =
    rw (e ∙ cleared_whole (length seen₁) seen₁ (omega arith)) (rw (length-replicate {A = ℕ} (length seen₁) 0) (omega (arith, w, l)), zeros_unset (length seen₁))

-- no start is noted
nothing_noted : (g : Graph) (seen out : List ℕ) → Unmarked g seen → Noting g [] seen out out 0
unfolding elem triples
nothing_noted g seen out h =
    record {
      marks = record { wide = h.0; marked = h.1 };
      good = λ i l. absurd (omega (arith, l));
      apart = _;
      counted = refl;
      long = refl;
      written = λ l. refl;
    }

pub noted_start : (g : Graph) (seen out : List ℕ) → Unmarked g seen → Noted g seen out 0
noted_start g seen out h = record { facts = []; lent = out; noting = nothing_noted g seen out h }

module _ (g : Graph) (row plan : List ℕ) (x : Reached) (m : MainReached g row plan x) where
  -- the lines that are read for bailouts
  pub taken_good : (6 * x.taken ≤ length row) × ((k : ℕ) → k < x.taken → Good g (line_at row k).fact)
  taken_good = (omega (arith, m.room, m.taken_inside), λ k l. m.good k (omega (arith, l, m.taken_inside)))

  taken_lines : lines_of x.taken row ≡ take (run_of g).taken (run_of g).main
  taken_lines = sym (lines-take x.main row x.taken m.taken_inside) ∙ ap (take x.taken) m.main_lines ∙ ap (λ k. take k (run_of g).main) m.taken_are

  abbrev noting : List Fact
  noting = starts_by_kind g (live_in g.header plan) (lines_of x.taken row)

  starts_are : noting ≡ own_by_kind g
  unfolding own_by_kind
  starts_are = ap (λ w. starts_by_kind g w (lines_of x.taken row)) m.leaves.live_are ∙ ap (λ ls. starts_by_kind g (run_of g).live ls) taken_lines

  pub all_noted : (seen₀ out₀ seen out : List ℕ) (n : ℕ) → Unmarked g seen₀ → Notes g noting seen₀ out₀ 0 seen out n → Noting g (own_starts_once g) seen out₀ out n
  unfolding own_starts_once once
  all_noted seen₀ out₀ seen out n h a = subst (λ (fs : List Fact). Noting g (notes g [] fs) seen out₀ out n) starts_are (a.on [] out₀ (nothing_noted g seen₀ out₀ h))

-- The first noting, into a row of its own, counts them.
module _ (g : Graph) (seen lent none : List ℕ) (n : ℕ) (a : Noting g (own_starts_once g) seen lent none n) where
  pub few_noted : (Noted g seen none n → n ≤ 1050624) → n ≤ 1050624
  few_noted f = f (record { facts = own_starts_once g; lent = lent; noting = a })

  pub none_given : (out₀ : List ℕ) → length out₀ < 3 * n → Given g out₀ out₀ (Err NoRoom)
  none_given out₀ h =
      record {
        given = λ k e. absurd cc;
        refused = λ why e. (cc, omega (arith, h, a.counted), refl);
      }

  -- the second writes them
  pub all_given : (out₀ : List ℕ) → 3 * n ≤ length out₀ → (seen₂ out : List ℕ) (k : ℕ) → Noting g (own_starts_once g) seen₂ out₀ out k → Given g out₀ out (Ok (3 * n))
  all_given out₀ h seen₂ out k b =
      let same : k ≡ n = b.counted ∙ sym a.counted in
      record {
        given = λ j e.
            let i : 3 * n ≡ j = cc in
            (omega (arith, i, a.counted), omega (arith, i, h), b.written (omega (arith, h, same)) ∙ ap (λ w. triples (own_starts_once g) ++ drop w out₀) (ap (λ w. 3 * w) same ∙ i));
        refused = λ why e. absurd cc;
      }
