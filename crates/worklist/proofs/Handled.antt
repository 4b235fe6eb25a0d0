-- A line handled: K1, the table, and the other rules.
use Prim.Native.Nat.{ℕ, ◌+◌, ◌<◌, ◌≤◌}
use mathlib.Core.Path.{◌≡◌, refl, ap, ◌∙◌, sym}
use mathlib.Core.List.{List, ◌++◌}
use native.Mathlib.Omega.{arith}
use lib.ListN.{length, get_or, take}
use lib.Seq.{take-append-le, get_or-take}
use Rattle.determine_side_effects.specs.graph_crate.Check.{Graph}
use Rattle.determine_side_effects.specs.facts_crate.declared.Fact.{Fact}
use Rattle.determine_side_effects.specs.facts_crate.Facts.{module_fact}
use Rattle.keep_record.specs.declared.Line.{Line}
use Rattle.keep_record.specs.Lines.{adds}
use Rattle.keep_record.specs.Held.{line_at, lines_of, Grown}
use Rattle.keep_record.proofs.Rows.{lines-length, lines_at}
use Rattle.keep_record.proofs.Adding.{adds_prefix, adds_longer}
use Rattle.keep_rules.specs.Rules.{segments_of, gives}
use Rattle.include_statements.specs.Following.{line_by, lines_by}
use Rattle.worklist.specs.Drain.{line, fact_at, joins, followed, news}
use Rattle.worklist.specs.Links.{Linked, LinkReady, StillLinked}
use Rattle.include_statements.proofs.Going.{both_full, both_added, grown_longer}
use Rattle.std.specs.Prelude.{Result, Ok}
use Rattle.keep_record.specs.declared.Full.{Full}
use Rattle.keep_record.specs.Held.{no_room}

-- the first lines stay
pub take-adds : (g : Graph) (base : ℕ) (lines ls : List Line) (n : ℕ) → n ≤ length lines → take n (adds g base lines ls) ≡ take n lines
take-adds g base lines ls n h = let p = adds_prefix g base lines ls in ap (take n) p.1 ∙ take-append-le n lines p.0 h

module _ (g : Graph) (base : ℕ) (row : List ℕ) (count : ℕ) (xs : List Line) (marks' row' : List ℕ) (d : ℕ) (w : Grown g base (adds g base (lines_of count row) xs) marks' row' (Ok d)) where
  pub count_more : count ≤ d
  count_more = omega (arith, grown_longer g base _ marks' row' d w, adds_longer g base (lines_of count row) xs, lines-length count row)

  pub take_grown : (n : ℕ) → n ≤ count → take n (lines_of d row') ≡ take n (lines_of count row)
  take_grown n h = ap (take n) (w.held d refl).0 ∙ take-adds g base (lines_of count row) xs n (omega (arith, lines-length count row))

  pub line_grown : (k : ℕ) → k < count → line_at row' k ≡ line_at row k
  line_grown k h =
      let z : Line = line (module_fact 0) 0 0 0 in
      let l : k < k + 1 = omega arith in
      sym (lines_at d row' k z (omega (arith, count_more)))
      ∙ sym (get_or-take (k + 1) (lines_of d row') k z l)
      ∙ ap (λ ls. get_or ls k z) (take_grown (k + 1) (omega arith))
      ∙ get_or-take (k + 1) (lines_of count row) k z l
      ∙ lines_at count row k z h

module _ (g : Graph) (base : ℕ) (v row : List ℕ) (count k : ℕ) (f : Fact) (inside : k < count) (is : f ≡ (line_at row k).fact) where
  news_are : news g v base (lines_of count row) k ≡ joins g base (lines_of count row) k f ++ followed g v k f
  unfolding news fact_at
  news_are =
      let e : fact_at (lines_of count row) k ≡ f = ap (λ l. l.fact) (lines_at count row k (line (module_fact 0) 0 0 0) inside) ∙ sym is in
      ap (λ x. joins g base (lines_of count row) k x ++ followed g v k x) e

  -- what the loops over the rules add is what follows
  followed_lines : lines_by k (segments_of g v f) ≡ followed g v k f
  unfolding lines_by line_by followed gives
  followed_lines = refl

  pub handle_full : (links marks' row' : List ℕ) → Grown g base (adds g base (lines_of count row) (joins g base (lines_of count row) k f)) marks' row' no_room
      → Grown g base (adds g base (lines_of count row) (news g v base (lines_of count row) k)) marks' row' no_room × StillLinked g base links row' (k + 1) no_room
  handle_full links marks' row' w =
      (rw news_are (both_full g base (lines_of count row) _ _ marks' row' w), record { known = λ c q. let z : ◌≡◌ {A = ℕ} 0 1 = cc in absurd (omega arith) })

  module _ (marks' row' : List ℕ) (d : ℕ) (w : Grown g base (adds g base (lines_of count row) (joins g base (lines_of count row) k f)) marks' row' (Ok d)) where
    pub link-ready : base ≤ k → LinkReady g base row' d k f
    link-ready behind =
        record {
          behind_base = behind;
          inside = omega (arith, count_more g base row count _ marks' row' d w);
          room = (w.held d refl).1.room;
          is = ap (λ l. l.fact) (line_grown g base row count _ marks' row' d w k inside) ∙ sym is;
          good = (w.held d refl).1.good;
          apart = (w.held d refl).1.apart;
        }

    pub still-linked : (links : List ℕ) → Linked g base links (take k (lines_of count row)) → Linked g base links (take k (lines_of d row'))
    still-linked links t = rw (take_grown g base row count _ marks' row' d w k (omega arith)) t

    pub handle-done : (links marks'' row'' : List ℕ) (r : Result ℕ Full) → Linked g base links (take (k + 1) (lines_of d row')) → Grown g base (adds g base (lines_of d row') (lines_by k (segments_of g v f))) marks'' row'' r
        → Grown g base (adds g base (lines_of count row) (news g v base (lines_of count row) k)) marks'' row'' r × StillLinked g base links row'' (k + 1) r
    handle-done links marks'' row'' r t u = (
      rw news_are (both_added g base (lines_of count row) _ _ marks' row' d marks'' row'' r w (rw followed_lines at u)),
      record { known = λ c q. rw (take_grown g base row' d _ marks'' row'' c (rw q at u) (k + 1) (omega (arith, count_more g base row count _ marks' row' d w))) t },
    )
