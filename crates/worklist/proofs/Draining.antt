-- The loops of the drain: what is left, from the lines that stand, is the whole.
use Prim.Native.Nat.{ℕ, suc, ◌+◌, ◌*◌, ◌-◌, ◌/◌, ◌<◌, ◌≤◌}
use mathlib.Core.Path.{◌≡◌, refl, ap, ◌∙◌, sym}
use mathlib.Core.List.{List, [], ◌∷◌}
use native.Mathlib.Omega.{arith}
use native.Mathlib.Numerals.{add-one}
use lib.ListN.{length, get_or, take, drop, drop_of_length-le}
use lib.Seq.{take_all, drop-cons, take-append-le}
use Rattle.determine_side_effects.specs.graph_crate.Check.{Graph}
use Rattle.determine_side_effects.specs.facts_crate.declared.Fact.{Fact}
use Rattle.determine_side_effects.specs.facts_crate.Facts.{mark_count, module_fact, fact_of, Good}
use Rattle.keep_record.specs.declared.Line.{Line}
use Rattle.keep_record.specs.Lines.{added, adds}
use Rattle.keep_record.specs.Held.{lines_of, Held, Grown, Writable}
use Rattle.keep_record.proofs.Rows.{lines-length, no_lines, tabulate-length, tabulate-at}
use Rattle.keep_record.proofs.Adding.{added_prefix, added_longer}
use Rattle.worklist.specs.Drain.{line, news, drained, started, drained_all, drain_of}
use Rattle.starts.specs.Starts.{starts_of}
use Rattle.worklist.specs.Links.{Linked, StillLinked, AllLinked}
use Rattle.starts.specs.Starts.{StartsGood}
use Rattle.include_statements.proofs.Going.{full_more, grown_as, grown_longer}
use Rattle.worklist.proofs.Handled.{count_more}
use Rattle.worklist.proofs.Ends.{drained_stop, drained_next, drained_longer, started_longer, all_longer}
use Rattle.std.specs.Prelude.{Result, Ok}
use Rattle.keep_record.specs.declared.Full.{Full}
use Rattle.keep_record.specs.Held.{no_room}

not_full : (g : Graph) (base : ℕ) (links row : List ℕ) → AllLinked g base links row no_room
not_full g base links row = record { known = λ c q. let z : ◌≡◌ {A = ℕ} 0 1 = cc in absurd (omega arith) }

pub record Draining (g : Graph) (v : List ℕ) (base : ℕ) (out : List Line) (k : ℕ) (links marks row : List ℕ) (c at : ℕ) : Type 0 where
  pub held : Held g base marks row c
  pub linked : Linked g base links (take at (lines_of c row))
  pub on : drained g v base (mark_count g + k - at) at (lines_of c row) ≡ out
  pub over : base ≤ k
  pub begun : k ≤ at
  pub low : at ≤ c

pub drain_start : (g : Graph) (v : List ℕ) (base k : ℕ) (links marks row : List ℕ) (c : ℕ) → Held g base marks row c → Linked g base links (take k (lines_of c row)) → base ≤ k → k ≤ c
    → Draining g v base (drained g v base (mark_count g) k (lines_of c row)) k links marks row c k
drain_start g v base k links marks row c h t b l =
    let z : mark_count g + k - k ≡ mark_count g = omega arith in
    record { held = h; linked = t; on = ap (λ n. drained g v base n k (lines_of c row)) z; over = b; begun = omega arith; low = l }

module _ (g : Graph) (v : List ℕ) (base : ℕ) (out : List Line) (k : ℕ) (links marks row : List ℕ) (c at : ℕ) (s : Draining g v base out k links marks row c at) where
  taken : at < c → c ≤ base + mark_count g → drained g v base (mark_count g + k - (at + 1)) (at + 1) (adds g base (lines_of c row) (news g v base (lines_of c row) at)) ≡ out
  taken h few =
      let b = s.over in
      let z : mark_count g + k - at ≡ suc (mark_count g + k - (at + 1)) = omega arith in
      let l : at < length (lines_of c row) = omega (arith, lines-length c row) in
      sym (drained_next g v base (mark_count g + k - (at + 1)) at (lines_of c row) l) ∙ ap (λ n. drained g v base n at (lines_of c row)) (sym z) ∙ s.on

  pub drain_step : at < c → c ≤ base + mark_count g → (links' marks' row' : List ℕ) (d : ℕ)
      → Grown g base (adds g base (lines_of c row) (news g v base (lines_of c row) at)) marks' row' (Ok d) × StillLinked g base links' row' (at + 1) (Ok d) → Draining g v base out k links' marks' row' d (at + 1)
  drain_step h few links' marks' row' d w =
      record {
        held = (w.0.held d refl).1;
        linked = w.1.known d refl;
        on = ap (λ ls. drained g v base (mark_count g + k - (at + 1)) (at + 1) ls) (w.0.held d refl).0 ∙ taken h few;
        over = s.over;
        begun = omega (arith, s.begun);
        low = omega (arith, count_more g base row c _ marks' row' d w.0);
      }

  pub drain_full : at < c → c ≤ base + mark_count g → (links' marks' row' : List ℕ)
      → Grown g base (adds g base (lines_of c row) (news g v base (lines_of c row) at)) marks' row' no_room × StillLinked g base links' row' (at + 1) no_room → Grown g base out marks' row' no_room × AllLinked g base links' row' no_room
  drain_full h few links' marks' row' w =
      let more = drained_longer g v base (mark_count g + k - (at + 1)) (at + 1) (adds g base (lines_of c row) (news g v base (lines_of c row) at)) in
      (full_more g base _ out marks' row' (omega (arith, more, ap length (taken h few))) w.0, not_full g base links' row')

  pub drain_done : c ≤ at → Grown g base out marks row (Ok c) × AllLinked g base links row (Ok c)
  drain_done h =
      let size = lines-length c row in
      let z : length (lines_of c row) ≤ at = omega (arith, size) in (
        grown_as g base out marks row c (sym (drained_stop g v base (mark_count g + k - at) at (lines_of c row) z) ∙ s.on) s.held,
        record { known = λ d q. let e : c ≡ d = cc in rw (← e) (rw (take_all at (lines_of c row) z) at s.linked) },
      )

-- one start
pub start_writable : (g : Graph) (c : ℕ) (f : Fact) → Good g f → Writable g c (line f 0 0 0)
start_writable g c f h = record { good_fact = h; rule_small = omega arith; because_earlier = omega arith; and_earlier = omega arith }

module _ (g : Graph) (base : ℕ) (row : List ℕ) (c : ℕ) (f : Fact) where
  pub start_full : (v links' marks' row' : List ℕ) → Grown g base (added g base (lines_of c row) (line f 0 0 0)) marks' row' no_room
      → Grown g base (started g v base (lines_of c row) f) marks' row' no_room × AllLinked g base links' row' no_room
  start_full v links' marks' row' w = (full_more g base _ _ marks' row' (started_longer g v base (lines_of c row) f) w, not_full g base links' row')

  -- its line stands
  module _ (marks' row' : List ℕ) (n : ℕ) (w : Grown g base (added g base (lines_of c row) (line f 0 0 0)) marks' row' (Ok n)) where
    pub start-more : c ≤ n
    start-more = omega (arith, grown_longer g base _ marks' row' n w, added_longer g base (lines_of c row) (line f 0 0 0), lines-length c row)

    pub start-linked : (links : List ℕ) → Linked g base links (lines_of c row) → Linked g base links (take c (lines_of n row'))
    start-linked links t =
        let p = added_prefix g base (lines_of c row) (line f 0 0 0) in
        let size = lines-length c row in
        let b : c ≤ length (lines_of c row) = omega (arith, size) in
        let a : length (lines_of c row) ≤ c = omega (arith, size) in
        let e : take c (lines_of n row') ≡ lines_of c row = ap (take c) ((w.held n refl).0 ∙ p.1) ∙ take-append-le c (lines_of c row) p.0 b ∙ take_all c (lines_of c row) a in
        rw e t

    pub start-done : (v links'' marks'' row'' : List ℕ) (r : Result ℕ Full) → Grown g base (drained g v base (mark_count g) c (lines_of n row')) marks'' row'' r × AllLinked g base links'' row'' r
        → Grown g base (started g v base (lines_of c row) f) marks'' row'' r × AllLinked g base links'' row'' r
    unfolding started
    start-done v links'' marks'' row'' r u =
        let e : drained g v base (mark_count g) c (lines_of n row') ≡ started g v base (lines_of c row) f =
        ap (λ ls. drained g v base (mark_count g) c ls) (w.held n refl).0 ∙ ap (λ k. drained g v base (mark_count g) k (added g base (lines_of c row) (line f 0 0 0))) (sym (lines-length c row)) in
        rw e at u

-- the starts
pub starts-length : (starts : List ℕ) → length (starts_of starts) ≡ length starts / 3
unfolding starts_of
starts-length starts = tabulate-length _ 0 (length starts / 3)

pub starts_at : (starts : List ℕ) (i : ℕ) → i < length starts / 3 → get_or (starts_of starts) i (module_fact 0) ≡ fact_of (get_or starts (3 * i) 0) (get_or starts (3 * i + 1) 0) (get_or starts (3 * i + 2) 0)
unfolding starts_of
starts_at starts i h =
    let z : 0 + i ≡ i = omega arith in
    tabulate-at (λ j. fact_of (get_or starts (3 * j) 0) (get_or starts (3 * j + 1) 0) (get_or starts (3 * j + 2) 0)) 0 (length starts / 3) i (module_fact 0) h
    ∙ ap (λ j. fact_of (get_or starts (3 * j) 0) (get_or starts (3 * j + 1) 0) (get_or starts (3 * j + 2) 0)) z

pub starts_good : (g : Graph) (fs : List Fact) (i : ℕ) (f : Fact) → StartsGood g fs → i < length fs → f ≡ get_or fs i (module_fact 0) → Good g f
starts_good g fs i f s h e = rw e (s i h)

pub record Starting (g : Graph) (v : List ℕ) (base : ℕ) (out : List Line) (fs : List Fact) (links marks row : List ℕ) (c i : ℕ) : Type 0 where
  pub held : Held g base marks row c
  pub linked : Linked g base links (lines_of c row)
  pub on : drained_all g v base (drop i fs) (lines_of c row) ≡ out

pub starts_begin : (g : Graph) (v : List ℕ) (fs : List Fact) (links marks row : List ℕ) → Held g 0 marks row 0 → Linked g 0 links [] → Starting g v 0 (drain_of g v fs) fs links marks row 0 0
unfolding drain_of
starts_begin g v fs links marks row h t = record { held = h; linked = rw (no_lines row) t; on = ap (λ ls. drained_all g v 0 fs ls) (no_lines row) }

module _ (g : Graph) (v : List ℕ) (base : ℕ) (out : List Line) (fs : List Fact) (links marks row : List ℕ) (c i : ℕ) (s : Starting g v base out fs links marks row c i) where
  module _ (h : i < length fs) (f : Fact) (is : f ≡ get_or fs i (module_fact 0)) where
    begun : drained_all g v base (drop (i + 1) fs) (started g v base (lines_of c row) f) ≡ out
    unfolding drained_all
    begun =
        let first : drop i fs ≡ f ∷ drop (i + 1) fs = drop-cons fs i (module_fact 0) h ∙ ap (λ x. x ∷ drop (suc i) fs) (sym is) ∙ ap (λ j. f ∷ drop j fs) (sym (add-one i)) in
        ap (λ xs. drained_all g v base xs (lines_of c row)) (sym first) ∙ s.on

    pub starts-step : (links' marks' row' : List ℕ) (d : ℕ) → Grown g base (started g v base (lines_of c row) f) marks' row' (Ok d) × AllLinked g base links' row' (Ok d) → Starting g v base out fs links' marks' row' d (i + 1)
    starts-step links' marks' row' d u =
        record {
          held = (u.0.held d refl).1;
          linked = u.1.known d refl;
          on = ap (λ ls. drained_all g v base (drop (i + 1) fs) ls) (u.0.held d refl).0 ∙ begun;
        }

    pub starts-full : (marks' row' : List ℕ) → Grown g base (started g v base (lines_of c row) f) marks' row' no_room → Grown g base out marks' row' no_room
    starts-full marks' row' u =
        let more = all_longer g v base (drop (i + 1) fs) (started g v base (lines_of c row) f) in
        full_more g base _ out marks' row' (omega (arith, more, ap length begun)) u

  pub starts_done : length fs ≤ i → Grown g base out marks row (Ok c)
  unfolding drained_all
  starts_done h = grown_as g base out marks row c (ap (λ xs. drained_all g v base xs (lines_of c row)) (sym (drop_of_length-le fs h)) ∙ s.on) s.held

-- as the code counts and reads them
module _ (starts : List ℕ) (i triples : ℕ) (size : triples ≡ length starts / 3) where
  pub starts_inside : i < triples → i < length (starts_of starts)
  starts_inside h = omega (arith, h, size, starts-length starts)

  pub starts_over : triples ≤ i → length (starts_of starts) ≤ i
  starts_over h = omega (arith, h, size, starts-length starts)

  pub start_is : i < triples → (f : Fact) (x y z : ℕ) → x ≡ get_or starts (3 * i) 0 → y ≡ get_or starts (3 * i + 1) 0 → z ≡ get_or starts (3 * i + 2) 0 → f ≡ fact_of x y z → f ≡ get_or (starts_of starts) i (module_fact 0)
  start_is h f x y z p q r e = (rw (p, q, r) at e) ∙ sym (starts_at starts i (omega (arith, h, size)))
