-- What a walk enters and completes, and what the order of completion says of paths.
use Prim.Native.Nat.{ℕ}
use mathlib.Core.Logic.{◌⊎◌, inl, inr, ⊎_elim}
use mathlib.Core.Bool.{Bool}
use mathlib.Core.List.{List, [], ◌∷◌}
use Rattle.keep_record.specs.Lines.{elem}
use Rattle.keep_record.specs.Held.{Distinct}
use Rattle.cycles.specs.Search.{Search, entered, completed}
use Rattle.cycles.specs.Cycles.{Edge, Reaches}
use Rattle.cycles.specs.Cycles.Reaches.{here, along}
use Rattle.cycles.proofs.Members.{In, Has, Lacks, never_both, refuted, in_none, in_head, in_tail, in_cases, with_new, with_old, with_cases, without}
use Rattle.cycles.proofs.Paths.{Among, mapped, begins, handed}
use Rattle.cycles.proofs.Walks.{Walks}
use Rattle.cycles.proofs.Walks.Walks.{stop, old, new}

-- x had not been entered, and a node of the list reaches it over such nodes
pub record New (g : ℕ → List ℕ) (us : List ℕ) (s : Search) (x : ℕ) : Type 0 where
  pub unseen : Lacks s.seen x
  pub root : ℕ
  pub listed : In us root
  pub path : Reaches (Among (Lacks s.seen) (Edge g)) root x

-- what a walk from the list's nodes does
pub record Went (g : ℕ → List ℕ) (us : List ℕ) (s z : Search) : Type 0 where
  pub seen_kept : (x : ℕ) → Has s.seen x → Has z.seen x
  pub done_kept : (x : ℕ) → In s.done x → In z.done x
  pub enters : (x : ℕ) → In us x → Has z.seen x
  pub completes : (x : ℕ) → Has z.seen x → Has s.seen x ⊎ In z.done x
  pub only : (x : ℕ) → In z.done x → In s.done x ⊎ New g us s x

-- new to a later search, from fewer nodes
earlier : (g : ℕ → List ℕ) (us ws : List ℕ) (s q : Search) (x : ℕ) → ((y : ℕ) → In us y → In ws y) → ((y : ℕ) → Has s.seen y → Has q.seen y) → New g us q x → New g ws s x
earlier g us ws s q x f h w =
    record {
      unseen = out x w.unseen;
      root = w.root;
      listed = f w.root w.listed;
      path = mapped (λ a b e. (out a e.0, (out b e.1.0, e.1.1))) w.path;
    }
  where
    out : (y : ℕ) → Lacks q.seen y → Lacks s.seen y
    out y o = refuted (s.seen y) (λ i. never_both (h y i) o)

-- new from the successors of a new node
below_new : (g : ℕ → List ℕ) (u : ℕ) (us : List ℕ) (s : Search) (x : ℕ) → Lacks s.seen u → New g (g u) (entered u s) x → New g (u ∷ us) s x
below_new g u us s x o w =
    let v : New g (g u) s x = earlier g (g u) (g u) s (entered u s) x (λ y i. i) (λ y i. with_old y u s.seen i) w in
    record { unseen = v.unseen; root = u; listed = in_head u us; path = along u v.root x (o, (begins v.path v.unseen, v.listed)) v.path }

pub went : (g : ℕ → List ℕ) {us : List ℕ} {s z : Search} → Walks g us s z → Went g us s z
went g (stop s) = record { seen_kept = λ x i. i; done_kept = λ x i. i; enters = λ x i. absurd (in_none x i); completes = λ x i. inl i; only = λ x i. inl i }
went g (old u us s z i p) =
    let b = went g p in
    record {
      seen_kept = b.seen_kept;
      done_kept = b.done_kept;
      enters = λ x j. ⊎_elim (λ e. rw e (b.seen_kept u i)) (λ k. b.enters x k) (in_cases x u us j);
      completes = b.completes;
      only = λ x j. ⊎_elim (λ k. inl k) (λ w. inr (earlier g us (u ∷ us) s s x (λ y k. in_tail y u us k) (λ y k. k) w)) (b.only x j);
    }
went g (new u us s m z o p q) =
    let a = went g p in
    let b = went g q in
    let mine : Has m.seen u = a.seen_kept u (with_new u s.seen) in
    let later : (x : ℕ) → Has s.seen x → Has m.seen x = λ x i. a.seen_kept x (with_old x u s.seen i) in
    record {
      seen_kept = λ x i. b.seen_kept x (later x i);
      done_kept = λ x i. b.done_kept x (in_tail x u m.done (a.done_kept x i));
      enters = λ x j. ⊎_elim (λ e. rw e (b.seen_kept u mine)) (λ k. b.enters x k) (in_cases x u us j);
      completes = λ x j. ⊎_elim
          (λ k. ⊎_elim (λ l. ⊎_elim (λ e. inr (rw e (b.done_kept u (in_head u m.done)))) (λ t. inl t) (with_cases x u s.seen l)) (λ l. inr (b.done_kept x (in_tail x u m.done l))) (a.completes x k))
          (λ k. inr k) (b.completes x j);
      only = λ x j. ⊎_elim
          (λ k. ⊎_elim (λ e. inr (rw e (record { unseen = o; root = u; listed = in_head u us; path = here u })))
          (λ l. ⊎_elim (λ t. inl t) (λ w. inr (below_new g u us s x o w)) (a.only x l)) (in_cases x u m.done k))
          (λ w. inr (earlier g us (u ∷ us) s (completed u m) x (λ y k. in_tail y u us k) later w)) (b.only x j);
    }

-- Kosaraju's argument rests on this: a node reaches all that reach it over it and those completed before it.
abbrev pub Ranked : (ℕ → List ℕ) → List ℕ → Type 0
Ranked g [] = Unit {0}
Ranked g (t ∷ ts) = ((v : ℕ) → Reaches (Among (In (t ∷ ts)) (Edge g)) v t → Reaches (Edge g) t v) × Ranked g ts

pub record Sound (g : ℕ → List ℕ) (s : Search) : Type 0 where
  pub inside : (x : ℕ) → In s.done x → Has s.seen x
  pub closed : (x y : ℕ) → In s.done x → Edge g x y → Has s.seen y
  pub ranked : Ranked g s.done
  pub apart : Distinct s.done

-- a node that was new, and is completed after its successors were walked
module _ (g : ℕ → List ℕ) (u : ℕ) (s m : Search) (o : Lacks s.seen u) (h : Sound g s) (k : Sound g m) (a : Went g (g u) (entered u s) m) where
  -- no edge leads from what was completed before to what is new
  stays_old : (x y : ℕ) → Among (In (u ∷ m.done)) (Edge g) x y → In s.done x → In s.done y
  stays_old x y e i =
      let j : Has s.seen y = h.closed x y i e.1.1 in
      ⊎_elim (λ q. absurd (never_both (rw q at j) o))
      (λ d. ⊎_elim (λ t. t) (λ w. absurd (never_both j (without y u s.seen w.unseen))) (a.only y d))
      (in_cases y u m.done e.1.0)

  reaches_all : (v : ℕ) → Reaches (Among (In (u ∷ m.done)) (Edge g)) v u → Reaches (Edge g) u v
  reaches_all v p =
      ⊎_elim (λ e. rw e (here u))
      (λ d. ⊎_elim (λ t. absurd (never_both (h.inside u (handed (In s.done) stays_old p t)) o))
      (λ w. along u w.root v w.listed (mapped (λ x y e. e.1.1) w.path)) (a.only v d))
      (in_cases v u m.done (begins p (in_head u m.done)))

  not_before : In m.done u → ⊥
  not_before i = ⊎_elim (λ t. never_both (h.inside u t) o) (λ w. never_both (with_new u s.seen) w.unseen) (a.only u i)

  sound_completed : Sound g (completed u m)
  sound_completed =
      record {
        inside = λ x i. ⊎_elim (λ e. rw e (a.seen_kept u (with_new u s.seen))) (λ j. k.inside x j) (in_cases x u m.done i);
        closed = λ x y i e. ⊎_elim (λ q. a.enters y (rw q at e)) (λ j. k.closed x y j e) (in_cases x u m.done i);
        ranked = (reaches_all, k.ranked);
        apart = (refuted (elem u m.done) not_before, k.apart);
      }

sound_entered : (g : ℕ → List ℕ) (u : ℕ) (s : Search) → Sound g s → Sound g (entered u s)
sound_entered g u s h =
    record { inside = λ x i. with_old x u s.seen (h.inside x i); closed = λ x y i e. with_old y u s.seen (h.closed x y i e); ranked = h.ranked; apart = h.apart }

pub sound : (g : ℕ → List ℕ) {us : List ℕ} {s z : Search} → Walks g us s z → Sound g s → Sound g z
sound g (stop s) h = h
sound g (old u us s z i p) h = sound g p h
sound g (new u us s m z o p q) h = sound g q (sound_completed g u s m o h (sound g p (sound_entered g u s h)) (went g p))

pub sound_start : (g : ℕ → List ℕ) (f : ℕ → Bool) → Sound g (record { seen = f; done = [] })
sound_start g f = record { inside = λ x i. absurd (in_none x i); closed = λ x y i e. absurd (in_none x i); ranked = tt; apart = tt }
