-- What the components of the Rust's graph say: which modules are on cycles, and how the numbers of single nodes follow the order of completion.
use Prim.Native.Nat.{ℕ, ◌<◌, ◌≤◌}
use mathlib.Core.Path.{◌≡◌, refl, sym, ◌∙◌, subst}
use mathlib.Core.Logic.{◌⊎◌, inl, inr}
use mathlib.Core.Bool.{Bool, true, false}
use mathlib.Core.List.{List, [], ◌∷◌}
use native.Mathlib.Omega.{arith}
use borrow.Author.Tests.{eqb-true, eqb-false, ltb-true, ltb-false}
use lib.Dec.{eqb, ltb}
use lib.ListN.{length}
use Rattle.keep_record.specs.Lines.{elem}
use Rattle.keep_record.specs.Held.{Distinct}
use Rattle.cycles.specs.Cycles.{Edge, Reaches, OnCycle}
use Rattle.cycles.specs.Cycles.Reaches.{here as stay, along as step}
use Rattle.cycles.proofs.Members.{never_both}
use Rattle.rust_values.specs.Values.{Found, In}
use Rattle.rust_values.specs.Values.Found.{none, found}
use Rattle.rust_values.proofs.Members.{elem_in, in_elem}
use Rattle.rust_order.specs.DynamicEntries.{Path, TarjanScc, component, cycled_dynamic_entries, order_from}
use Rattle.rust_order.specs.DynamicEntries.Path.{here, along}
use Rattle.rust_order.proofs.Earlier.{Earlier, before_earlier, earlier_once}
use Rattle.rust_order.proofs.Numbers.{first_in, in_first, both_in, Several, cycled_several, several_cycled, Single, found_single, none_single}

-- ---- paths

pub path_reaches : {succs : ℕ → List ℕ} {m n : ℕ} → Path succs m n → Reaches (Edge succs) m n
path_reaches (here m) = stay m
path_reaches {succs} (along m n o i p) = step m n o (in_elem n (succs m) i) (path_reaches p)

pub reaches_path : {succs : ℕ → List ℕ} {m n : ℕ} → Reaches (Edge succs) m n → Path succs m n
reaches_path (stay m) = here m
reaches_path {succs} (step m n o e p) = along m n o (elem_in n (succs m) e) (reaches_path p)

-- ---- a second member

record Another (xs : List ℕ) (x : ℕ) : Type 0 where
  is : ℕ
  listed : In is xs
  differs : is ≡ x → ⊥

another : (xs : List ℕ) (x : ℕ) → Distinct xs → 1 < length xs → Another xs x
another [] x d h = absurd (omega arith)
another (a ∷ []) x d h = absurd (omega arith)
another (a ∷ b ∷ xs) x d h = go (eqb a x) refl
  where
    go : (c : Bool) → eqb a x ≡ c → Another (a ∷ b ∷ xs) x
    go true e =
        record { is = b; listed = inr (inl refl); differs = λ q. let r : a ≡ b = eqb-true a x e ∙ sym q in never_both (in_elem a (b ∷ xs) (inl r)) d.0 }
    go false e = record { is = a; listed = inl refl; differs = eqb-false a x e }

module _ {succs : ℕ → List ℕ} {nodes : List ℕ} {sccs : List (List ℕ)} (s : TarjanScc succs nodes sccs)
    (ends : (u v : ℕ) → Edge succs u v → (elem u nodes ≡ true) × (elem v nodes ≡ true)) where
  -- ---- cycles

  several_on : (m : ℕ) → Several sccs m → OnCycle succs m
  several_on m c =
      let a = another (component sccs c.number) m (s.apart c.number c.below) c.several in
      record {
        other = a.is;
        differs = a.differs;
        to = path_reaches (s.connected c.number m a.is c.below c.listed a.listed);
        back = path_reaches (s.connected c.number a.is m c.below a.listed c.listed);
      }

  begins : (m k : ℕ) → (k ≡ m → ⊥) → Reaches (Edge succs) m k → In m nodes
  begins m k d (stay _) = absurd (d refl)
  begins m k d (step _ n _ e p) = elem_in m nodes (ends m n e).0

  on_several : (m : ℕ) → OnCycle succs m → Several sccs m
  on_several m c = record { number = i; below = s.inside m h; several = two (ltb 1 (length (component sccs i))) refl; listed = s.covers m h }
    where
      h : In m nodes
      h = begins m c.other c.differs c.to

      k : In c.other nodes
      k = begins c.other m (λ q. c.differs (sym q)) c.back

      i : ℕ
      i = s.place m h

      same : s.place c.other k ≡ i
      same =
          s.maximal (s.place c.other k) i c.other m (s.inside c.other k) (s.inside m h)
          (s.covers c.other k) (s.covers m h) (reaches_path c.back) (reaches_path c.to)

      two : (b : Bool) → ltb 1 (length (component sccs i)) ≡ b → 1 < length (component sccs i)
      two true e = ltb-true 1 (length (component sccs i)) e
      two false e =
          absurd
          (c.differs
          (both_in (component sccs i) c.other m (ltb-false 1 (length (component sccs i)) e)
          (subst (λ (x : ℕ). In c.other (component sccs x)) same (s.covers c.other k)) (s.covers m h)))

  pub cycled_on : (m : ℕ) → elem m (cycled_dynamic_entries sccs) ≡ true → OnCycle succs m
  cycled_on m e = several_on m (cycled_several sccs m (elem_in m (cycled_dynamic_entries sccs) e))

  pub on_cycled : (m : ℕ) → OnCycle succs m → elem m (cycled_dynamic_entries sccs) ≡ true
  on_cycled m c = let k = on_several m c in in_elem m (cycled_dynamic_entries sccs) (several_cycled sccs m k.number k.below k.several k.listed)

  -- ---- numbers

  -- a node has one component
  one_place : (i j m : ℕ) → i < length sccs → j < length sccs → In m (component sccs i) → In m (component sccs j) → i ≡ j
  one_place i j m h k p q = s.maximal i j m m h k p q (here m) (here m)

  single_listed : (m j : ℕ) → (c : Single 0 sccs m j) → In m (component sccs c.number)
  single_listed m j c = first_in (component sccs c.number) m (s.not_empty c.number c.below) c.first

  pub order_none : (m : ℕ) → OnCycle succs m ⊎ (elem m nodes ≡ false) → order_from 0 sccs m ≡ none
  order_none m f = go (order_from 0 sccs m) refl f
    where
      go : (o : Found) → order_from 0 sccs m ≡ o → OnCycle succs m ⊎ (elem m nodes ≡ false) → o ≡ none
      go none e f = refl
      go (found j) e (inl c) =
          let r = found_single 0 sccs m j e in
          let k = on_several m c in
          let q = one_place r.number k.number m r.below k.below (single_listed m j r) k.listed in
          let l : length (component sccs k.number) ≤ 1 = subst (λ (x : ℕ). length (component sccs x) ≤ 1) q r.alone in
          absurd (omega (arith, l, k.several))
      go (found j) e (inr o) =
          let r = found_single 0 sccs m j e in
          absurd (never_both (in_elem m nodes (s.of_nodes r.number m r.below (single_listed m j r))) o)

  pub order_found : (m : ℕ) → (OnCycle succs m → ⊥) → elem m nodes ≡ true → (j : ℕ) × (order_from 0 sccs m ≡ found j)
  order_found m c e = go (order_from 0 sccs m) refl
    where
      h : In m nodes
      h = elem_in m nodes e

      alone : (b : Bool) → ltb 1 (length (component sccs (s.place m h))) ≡ b → length (component sccs (s.place m h)) ≤ 1
      alone true q =
          absurd
          (c (several_on m (record { number = s.place m h; below = s.inside m h; several = ltb-true 1 (length (component sccs (s.place m h))) q; listed = s.covers m h })))
      alone false q = ltb-false 1 (length (component sccs (s.place m h))) q

      go : (o : Found) → order_from 0 sccs m ≡ o → (j : ℕ) × (o ≡ found j)
      go none q =
          let l = alone (ltb 1 (length (component sccs (s.place m h)))) refl in
          absurd (none_single 0 sccs m q (s.place m h) (s.inside m h) l (in_first (component sccs (s.place m h)) m l (s.covers m h)))
      go (found j) q = (j, refl)

  -- what was completed later has the higher number
  pub order_falls : (m n a b : ℕ) → Distinct s.end.completed → order_from 0 sccs m ≡ found a → order_from 0 sccs n ≡ found b → Earlier m n s.end.completed → b < a
  order_falls m n a b d e f h = go (ltb b a) refl (eqb a b) refl
    where
      p : Single 0 sccs m a
      p = found_single 0 sccs m a e

      q : Single 0 sccs n b
      q = found_single 0 sccs n b f

      same : a ≡ b → m ≡ n
      same r =
          let k : p.number ≡ q.number = omega (arith, r, p.is, q.is) in
          both_in (component sccs q.number) m n q.alone (subst (λ (x : ℕ). In m (component sccs x)) k (single_listed m a p)) (single_listed n b q)

      go : (x : Bool) → ltb b a ≡ x → (y : Bool) → eqb a b ≡ y → b < a
      go true u y v = ltb-true b a u
      go false u true v =
          let r : Earlier m m s.end.completed = subst (λ (x : ℕ). Earlier m x s.end.completed) (sym (same (eqb-true a b v))) h in
          absurd (earlier_once m m s.end.completed d r r)
      go false u false v =
          let l = ltb-false b a u in
          let o = eqb-false a b v in
          let i : p.number < q.number = omega (arith, l, o, p.is, q.is) in
          let t = s.numbered p.number q.number m i q.below (single_listed m a p) in
          let z : s.last q.number ≡ n =
          both_in (component sccs q.number) (s.last q.number) n q.alone (s.last_of q.number q.below) (single_listed n b q) in
          absurd (earlier_once m n s.end.completed d h (subst (λ (x : ℕ). Earlier x m s.end.completed) z (before_earlier t)))
