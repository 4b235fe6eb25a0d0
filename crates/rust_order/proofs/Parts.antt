-- All components, in the order in which the walks of their nodes are all completed: one behind another, from the node completed first on.
use Prim.Native.Nat.{ℕ, ◌+◌, ◌<◌}
use mathlib.Core.Path.{◌≡◌, refl, ap, ◌∙◌, sym, subst}
use mathlib.Core.Logic.{◌⊎◌, inl, inr, ⊎_elim}
use mathlib.Core.Bool.{Bool, true, false}
use mathlib.Core.List.{List, [], ◌∷◌, ◌++◌}
use native.Mathlib.Omega.{arith}
use borrow.Author.Tests.{ltb-true, ltb-false, lt-ltb, le-ltb}
use lib.Dec.{ltb}
use lib.ListN.{length, length-append, get_or-append}
use lib.Seq.{get_or-append_seam}
use Rattle.keep_record.specs.Lines.{elem}
use Rattle.keep_record.specs.Held.{Distinct}
use Rattle.cycles.specs.Cycles.{Edge, Reaches}
use Rattle.cycles.specs.Cycles.Reaches.{here, along}
use Rattle.cycles.proofs.Members.{Has, Lacks, never_both, refuted, in_none, in_head, in_tail, in_cases}
use Rattle.cycles.proofs.Paths.{joined}
use Rattle.cycles.proofs.Ranks.{Ranked}
use Rattle.rust_values.specs.Values.{In}
use Rattle.rust_values.proofs.Members.{elem_in, in_elem}
use Rattle.rust_order.specs.DynamicEntries.{component}
use Rattle.rust_order.proofs.Earlier.{Earlier}
use Rattle.rust_order.proofs.Grouping.{Closed, Covers, Group, group}

pub record Placed (groups : List (List ℕ)) (m : ℕ) : Type 0 where
  pub number : ℕ
  pub below : number < length groups
  pub listed : In m (component groups number)

-- the components of the nodes that were not seen; rs are those that are still to come, the last completed first
pub record Parts (g : ℕ → List ℕ) (Node : ℕ → Type 0) (rs : List ℕ) (seen : ℕ → Bool) : Type 0 where
  pub groups : List (List ℕ)
  pub placed : (m : ℕ) → Node m → Lacks seen m → Placed groups m
  pub of_nodes : (i m : ℕ) → i < length groups → In m (component groups i) → Node m × Lacks seen m
  pub not_empty : (i : ℕ) → i < length groups → 0 < length (component groups i)
  pub apart : (i : ℕ) → i < length groups → Distinct (component groups i)
  pub connected : (i m k : ℕ) → i < length groups → In m (component groups i) → In k (component groups i) → Reaches (Edge g) m k
  pub maximal : (i j m k : ℕ) → i < length groups → j < length groups → In m (component groups i) → In k (component groups j)
      → Reaches (Edge g) m k → Reaches (Edge g) k m → i ≡ j
  pub last : ℕ → ℕ
  pub last_of : (j : ℕ) → j < length groups → In (last j) (component groups j)
  pub numbered : (i j m : ℕ) → i < j → j < length groups → In m (component groups i) → Earlier (last j) m rs

-- ---- one more at the end

module _ (xs : List (List ℕ)) (c : List ℕ) where
  abbrev more : List (List ℕ)
  more = xs ++ (c ∷ [])

  more_length : length more ≡ length xs + 1
  more_length = length-append xs (c ∷ [])

  old_at : (i : ℕ) → i < length xs → component more i ≡ component xs i
  old_at i h = get_or-append xs (c ∷ []) [] i h

  new_at : component more (length xs) ≡ c
  new_at = get_or-append_seam xs c [] []

  abbrev Where : ℕ → Type 0
  Where i = ((i < length xs) × (component more i ≡ component xs i)) ⊎ ((i ≡ length xs) × (component more i ≡ c))

  whereabouts : (i : ℕ) → i < length more → Where i
  whereabouts i h = go (ltb i (length xs)) refl
    where
      go : (b : Bool) → ltb i (length xs) ≡ b → Where i
      go true e = let l = ltb-true i (length xs) e in inl (l, old_at i l)
      go false e =
          let l = ltb-false i (length xs) e in
          let k = more_length in
          let q : i ≡ length xs = omega (arith, l, h, k) in
          inr (q, ap (λ (j : ℕ). component more j) q ∙ new_at)

in_long : (m : ℕ) (xs : List ℕ) → In m xs → 0 < length xs
in_long m [] i = absurd i
in_long m (x ∷ xs) i = omega arith

moved_in : (m : ℕ) {xs ys : List ℕ} → xs ≡ ys → In m xs → In m ys
moved_in m e i = subst (λ (l : List ℕ). In m l) e i

module _ (g p : ℕ → List ℕ) (Node : ℕ → Type 0) (back : (u v : ℕ) → Edge g u v → Edge p v u) where
  closed_back : (seen : ℕ → Bool) → Closed p seen → {u v : ℕ} → Reaches (Edge g) u v → Has seen v → Has seen u
  closed_back seen c (here u) i = i
  closed_back seen c (along u w v e q) i = c w u (closed_back seen c q i) (back u w e)

  module _ (r : ℕ) (rs : List ℕ) (seen : ℕ → Bool) (q : Group g p Node r seen)
      (s : Closed p q.after) (c : Covers Node rs q.after) (o : Parts g Node rs q.after) where
    abbrev all : List (List ℕ)
    all = o.groups ++ (q.members ∷ [])

    abbrev At : ℕ → Type 0
    At i = Where o.groups q.members i

    at : (i : ℕ) → i < length all → At i
    at i h = whereabouts o.groups q.members i h

    -- a node of an earlier component was not seen, one of the last was
    unseen : (i m : ℕ) → i < length o.groups → In m (component o.groups i) → Has q.after m → ⊥
    unseen i m h j k = never_both k (o.of_nodes i m h j).1

    member : (m : ℕ) → In m q.members → elem m q.members ≡ true
    member m i = in_elem m q.members i

    new-last : ℕ → ℕ
    new-last j = elim (ltb j (length o.groups)) [ true ↦ o.last j | false ↦ r ]

    last-old : (j : ℕ) → j < length o.groups → new-last j ≡ o.last j
    unfolding new-last
    last-old j h = rw (lt-ltb j (length o.groups) h, new-last)

    last_new : (j : ℕ) → j ≡ length o.groups → new-last j ≡ r
    unfolding new-last
    last_new j e = rw (le-ltb j (length o.groups) (omega (arith, e)), new-last)

    placed-more : (m : ℕ) → Node m → Lacks seen m → (b : Bool) → q.after m ≡ b → Placed all m
    placed-more m h l true e =
        let k = more_length o.groups q.members in
        let i : elem m q.members ≡ true = ⊎_elim (λ j. absurd (never_both j l)) (λ j. j) (q.no_others m e) in
        record { number = length o.groups; below = omega (arith, k); listed = moved_in m (sym (new_at o.groups q.members)) (elem_in m q.members i) }
    placed-more m h l false e =
        let k = more_length o.groups q.members in
        let z = o.placed m h e in
        record { number = z.number; below = omega (arith, k, z.below); listed = moved_in m (sym (old_at o.groups q.members z.number z.below)) z.listed }

    of_more : (i m : ℕ) → At i → In m (component all i) → Node m × Lacks seen m
    of_more i m (inl w) k = let z = o.of_nodes i m w.0 (moved_in m w.1 k) in (z.0, refuted (seen m) (λ t. never_both (q.kept m t) z.1))
    of_more i m (inr w) k = let z = member m (moved_in m w.1 k) in (q.nodes m z, q.new m z)

    filled : (i : ℕ) → At i → 0 < length (component all i)
    filled i (inl w) = rw w.1 (o.not_empty i w.0)
    filled i (inr w) = rw w.1 (in_long r q.members (elem_in r q.members q.root))

    apart_more : (i : ℕ) → At i → Distinct (component all i)
    apart_more i (inl w) = rw w.1 (o.apart i w.0)
    apart_more i (inr w) = rw w.1 q.apart

    connected-more : (i m k : ℕ) → At i → In m (component all i) → In k (component all i) → Reaches (Edge g) m k
    connected-more i m k (inl w) a b = o.connected i m k w.0 (moved_in m w.1 a) (moved_in k w.1 b)
    connected-more i m k (inr w) a b = joined (q.to_root m (member m (moved_in m w.1 a))) (q.from_root k (member k (moved_in k w.1 b)))

    maximal-more : (i j m k : ℕ) → At i → At j → In m (component all i) → In k (component all j) → Reaches (Edge g) m k → Reaches (Edge g) k m → i ≡ j
    maximal-more i j m k (inl w) (inl v) a b to fro = o.maximal i j m k w.0 v.0 (moved_in m w.1 a) (moved_in k v.1 b) to fro
    maximal-more i j m k (inl w) (inr v) a b to fro =
        absurd (unseen i m w.0 (moved_in m w.1 a) (closed_back q.after s to (q.seen_now k (member k (moved_in k v.1 b)))))
    maximal-more i j m k (inr w) (inl v) a b to fro =
        absurd (unseen j k v.0 (moved_in k v.1 b) (closed_back q.after s fro (q.seen_now m (member m (moved_in m w.1 a)))))
    maximal-more i j m k (inr w) (inr v) a b to fro = w.0 ∙ sym v.0

    last-of-more : (j : ℕ) → At j → In (new-last j) (component all j)
    last-of-more j (inl w) = rw (w.1, last-old j w.0) (o.last_of j w.0)
    last-of-more j (inr w) = rw (w.1, last_new j w.0) (elem_in r q.members q.root)

    numbered_more : (i j m : ℕ) → i < j → At j → In m (component all i) → Earlier (new-last j) m (r ∷ rs)
    numbered_more i j m h (inl w) a =
        let l : i < length o.groups = omega (arith, h, w.0) in
        subst (λ (x : ℕ). Earlier x m (r ∷ rs)) (sym (last-old j w.0)) (inr (o.numbered i j m h w.0 (moved_in m (old_at o.groups q.members i l) a)))
    numbered_more i j m h (inr w) a =
        let l : i < length o.groups = omega (arith, h, w.0) in
        let k = moved_in m (old_at o.groups q.members i l) a in
        let t : elem m rs ≡ true = ⊎_elim (λ z. absurd (unseen i m l k z)) (λ z. z) (c m (o.of_nodes i m l k).0) in
        rw (last_new j w.0) (inl (refl, elem_in m rs t))

    add-group : Parts g Node (r ∷ rs) seen
    add-group =
        record {
          groups = all;
          placed = λ m h l. placed-more m h l (q.after m) refl;
          of_nodes = λ i m h. of_more i m (at i h);
          not_empty = λ i h. filled i (at i h);
          apart = λ i h. apart_more i (at i h);
          connected = λ i m k h. connected-more i m k (at i h);
          maximal = λ i j m k h l. maximal-more i j m k (at i h) (at j l);
          last = new-last;
          last_of = λ j h. last-of-more j (at j h);
          numbered = λ i j m h l. numbered_more i j m h (at j l);
        }

  -- a node that was seen adds none
  no_group : (r : ℕ) (rs : List ℕ) (seen : ℕ → Bool) → Parts g Node rs seen → Parts g Node (r ∷ rs) seen
  no_group r rs seen o =
      record {
        groups = o.groups;
        placed = o.placed;
        of_nodes = o.of_nodes;
        not_empty = o.not_empty;
        apart = o.apart;
        connected = o.connected;
        maximal = o.maximal;
        last = o.last;
        last_of = o.last_of;
        numbered = λ i j m h l k. inr (o.numbered i j m h l k);
      }

  no_groups : (seen : ℕ → Bool) → ((m : ℕ) → Node m → Lacks seen m → ⊥) → Parts g Node [] seen
  no_groups seen f =
      record {
        groups = [];
        placed = λ m h l. absurd (f m h l);
        of_nodes = λ i m h k. absurd (omega (arith, h));
        not_empty = λ i h. absurd (omega (arith, h));
        apart = λ i h. absurd (omega (arith, h));
        connected = λ i m k h a b. absurd (omega (arith, h));
        maximal = λ i j m k h. absurd (omega (arith, h));
        last = λ j. 0;
        last_of = λ j h. absurd (omega (arith, h));
        numbered = λ i j m h l k. absurd (omega (arith, l));
      }

-- ---- from the last completed down

module _ (g p : ℕ → List ℕ) (n : ℕ) (Node : ℕ → Type 0) (below : (x : ℕ) → Node x → x < n) (ends : (u v : ℕ) → Edge g u v → Node u × Node v)
    (back : (u v : ℕ) → Edge g u v → Edge p v u) (forth : (u v : ℕ) → Edge p v u → Edge g u v) where
  pub parts : (rs : List ℕ) (seen : ℕ → Bool) → ((x : ℕ) → elem x rs ≡ true → Node x) → Covers Node rs seen → Closed p seen → Ranked g rs → Parts g Node rs seen
  parts [] seen b c s k = no_groups g p Node back seen (λ m h l. ⊎_elim (λ i. never_both i l) (λ i. in_none m i) (c m h))
  parts (r ∷ rs) seen b c s k = go (parts rs) (seen r) refl
    where
      rest : (x : ℕ) → elem x rs ≡ true → Node x
      rest x i = b x (in_tail x r rs i)

      go : ((f : ℕ → Bool) → ((x : ℕ) → elem x rs ≡ true → Node x) → Covers Node rs f → Closed p f → Ranked g rs → Parts g Node rs f)
          → (t : Bool) → seen r ≡ t → Parts g Node (r ∷ rs) seen
      go f true e =
          no_group g p Node back r rs seen
          (f seen rest (λ x h. ⊎_elim (λ i. inl i) (λ i. ⊎_elim (λ z. inl (rw z e)) (λ j. inr j) (in_cases x r rs i)) (c x h)) s k.1)
      go f false e =
          let q = group g p n Node below ends forth r rs seen (b r (in_head r rs)) e c k in
          let d : Covers Node rs q.after =
          λ x h. ⊎_elim (λ i. inl (q.kept x i)) (λ i. ⊎_elim (λ z. inl (rw z (q.seen_now r q.root))) (λ j. inr j) (in_cases x r rs i)) (c x h) in
          add-group g p Node back r rs seen q (q.closed s) d (f q.after rest d (q.closed s) k.1)
