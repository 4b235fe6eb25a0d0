-- A loop of additions: what is left, from the lines that stand, is the whole.
use Prim.Native.Nat.{ℕ, ◌<◌, ◌≤◌}
use mathlib.Core.Path.{◌≡◌, refl, ap, ◌∙◌, sym}
use mathlib.Core.List.{List, [], ◌∷◌, ◌++◌}
use native.Mathlib.Omega.{arith}
use lib.ListN.{length}
use Rattle.determine_side_effects.specs.graph_crate.Check.{Graph}
use Rattle.keep_record.specs.declared.Line.{Line}
use Rattle.keep_record.specs.Lines.{added, adds}
use Rattle.keep_record.specs.Held.{lines_of, Held, Grown}
use Rattle.keep_record.proofs.Rows.{lines-length}
use Rattle.keep_record.proofs.Adding.{added_longer, adds_longer, adds-append}
use Rattle.std.specs.Prelude.{Result, Ok}
use Rattle.keep_record.specs.declared.Full.{Full}
use Rattle.keep_record.specs.Held.{no_room}

-- lines that are too many for the record are too many with further ones
pub full_more : (g : Graph) (base : ℕ) (mid out : List Line) (marks row : List ℕ) → length mid ≤ length out → Grown g base mid marks row no_room → Grown g base out marks row no_room
full_more g base mid out marks row l f =
    record {
      held = λ c q. let z : ◌≡◌ {A = ℕ} 0 1 = cc in absurd (omega arith);
      full = λ q. omega (arith, l, f.full refl);
    }

pub grown_as : (g : Graph) (base : ℕ) (lines : List Line) (marks row : List ℕ) (c : ℕ) → lines_of c row ≡ lines → Held g base marks row c → Grown g base lines marks row (Ok c)
grown_as g base lines marks row c e h =
    record {
      held = λ d q. let z : c ≡ d = cc in rw (sym z) (e, h);
      full = λ q. let z : ◌≡◌ {A = ℕ} 0 1 = cc in absurd (omega arith);
    }

-- the lines of a row that grew
pub grown_longer : (g : Graph) (base : ℕ) (lines : List Line) (marks row : List ℕ) (d : ℕ) → Grown g base lines marks row (Ok d) → d ≡ length lines
grown_longer g base lines marks row d w = sym (lines-length d row) ∙ ap length (w.held d refl).0

pub record Going (g : Graph) (base : ℕ) (out left : List Line) (count : ℕ) (marks row : List ℕ) (c : ℕ) : Type 0 where
  pub held : Held g base marks row c
  pub on : adds g base (lines_of c row) left ≡ out
  pub more : count ≤ c

module _ (g : Graph) (base : ℕ) (out : List Line) (count : ℕ) (marks row : List ℕ) (c : ℕ) where
  pub go_step : (l : Line) (left : List Line) → Going g base out (l ∷ left) count marks row c → (marks' row' : List ℕ) (d : ℕ) → Grown g base (added g base (lines_of c row) l) marks' row' (Ok d)
      → Going g base out left count marks' row' d
  unfolding adds
  go_step l left s marks' row' d w =
      record {
        held = (w.held d refl).1;
        on = ap (λ ls. adds g base ls left) (w.held d refl).0 ∙ s.on;
        more = omega (arith, s.more, grown_longer g base _ marks' row' d w, added_longer g base (lines_of c row) l, lines-length c row);
      }

  pub go_full : (l : Line) (left : List Line) → Going g base out (l ∷ left) count marks row c → (marks' row' : List ℕ) → Grown g base (added g base (lines_of c row) l) marks' row' no_room → Grown g base out marks' row' no_room
  unfolding adds
  go_full l left s marks' row' w =
      full_more g base (added g base (lines_of c row) l) out marks' row' (omega (arith, ap length s.on, adds_longer g base (added g base (lines_of c row) l) left)) w

  pub go_done : Going g base out [] count marks row c → Grown g base out marks row (Ok c)
  unfolding adds
  go_done s = grown_as g base out marks row c s.on s.held

pub go_start : (g : Graph) (base : ℕ) (all : List Line) (marks row : List ℕ) (c : ℕ) → Held g base marks row c → Going g base (adds g base (lines_of c row) all) all c marks row c
go_start g base all marks row c h = record { held = h; on = refl; more = omega arith }

-- one list of additions behind another
module _ (g : Graph) (base : ℕ) (lines xs ys : List Line) where
  pub both_full : (marks row : List ℕ) → Grown g base (adds g base lines xs) marks row no_room → Grown g base (adds g base lines (xs ++ ys)) marks row no_room
  both_full marks row w =
      full_more g base (adds g base lines xs) (adds g base lines (xs ++ ys)) marks row (omega (arith, ap length (adds-append g base lines xs ys), adds_longer g base (adds g base lines xs) ys)) w

  pub both_added : (marks row : List ℕ) (d : ℕ) (marks' row' : List ℕ) (r : Result ℕ Full) → Grown g base (adds g base lines xs) marks row (Ok d) → Grown g base (adds g base (lines_of d row) ys) marks' row' r
      → Grown g base (adds g base lines (xs ++ ys)) marks' row' r
  both_added marks row d marks' row' r w v = rw ((w.held d refl).0, ← adds-append g base lines xs ys) at v

-- a line before, and a candidate within
pub before_more : (k n m : ℕ) → k < n → n ≤ m → k < m
before_more k n m l h = omega (arith, l, h)

pub below_same : (c n m : ℕ) → c < n → n ≡ m → c < m
below_same c n m l e = omega (arith, l, e)
