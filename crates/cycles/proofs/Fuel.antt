-- A larger bound on the nodes changes nothing: neither the fuel nor the predecessors.
use Prim.Native.Nat.{ℕ, zero, suc, ◌+◌, ◌-◌, ◌<◌, ◌≤◌}
use mathlib.Core.Path.{◌≡◌, refl, ap, ◌∙◌, sym}
use mathlib.Core.Bool.{Bool, true, false}
use mathlib.Core.List.{List, [], ◌∷◌, ◌++◌}
use native.Mathlib.Omega.{arith}
use native.Mathlib.Nat.{le_refl}
use Rattle.graph_access.specs.Words.{tabulate}
use Rattle.keep_record.specs.Lines.{elem}
use Rattle.keep_record.proofs.Rows.{tabulate_more}
use Rattle.entry_order.specs.Order.{those}
use Rattle.cycles.specs.Search.{Search, none, walk, finished}
use Rattle.cycles.specs.Cycles.{Edge, preds, several, groups, cycled}
use Rattle.cycles.proofs.Members.{In, refuted, in_head, in_tail}
use Rattle.cycles.proofs.Paths.{edge_forth}
use Rattle.cycles.proofs.Walks.{fuel_never}
use Rattle.cycles.proofs.Strong.{finished_roots, finished_fuel}

those_last : (test : ℕ → Bool) (xs : List ℕ) (x : ℕ) → test x ≡ false → those test (xs ++ (x ∷ [])) ≡ those test xs
unfolding those
those_last test [] x e = rw (e, those)
those_last test (y ∷ ys) x e = go (test y) refl (those_last test ys x e)
  where
    go : (b : Bool) → test y ≡ b → those test (ys ++ (x ∷ [])) ≡ those test ys → those test (y ∷ (ys ++ (x ∷ []))) ≡ those test (y ∷ ys)
    go true q r = rw (q, those) (ap (λ (zs : List ℕ). y ∷ zs) r)
    go false q r = rw (q, those) r

groups_fuel : (p : ℕ → List ℕ) (n : ℕ) → ((v u : ℕ) → Edge p v u → u < n) → (a : ℕ) → n ≤ a → (rs : List ℕ) (seen : ℕ → Bool) → ((x : ℕ) → In rs x → x < n) → groups p a rs seen ≡ groups p n rs seen
unfolding groups
groups_fuel p n below a h [] seen b = refl
groups_fuel p n below a h (r ∷ rs) seen b =
    let s : Search = record { seen = seen; done = [] } in
    let e : walk p a r s ≡ walk p n r s = fuel_never p n (λ u v l i. below u v i) a n r s (b r (in_head r rs)) h (le_refl n) in
    ap (λ (q : Search). several q.done ++ groups p a rs q.seen) e
    ∙ ap (λ (xs : List ℕ). several (walk p n r s).done ++ xs) (groups_fuel p n below a h rs (walk p n r s).seen (λ x i. b x (in_tail x r rs i)))

module _ (g : ℕ → List ℕ) (n : ℕ) (roots : List ℕ) (below : (x : ℕ) → elem x roots ≡ true → x < n)
    (ends : (u v : ℕ) → Edge g u v → (elem u roots ≡ true) × (elem v roots ≡ true)) where
  preds_more : (v d : ℕ) → preds g (n + d) v ≡ preds g n v
  unfolding preds
  preds_more v zero = let e : n + 0 ≡ n = omega arith in ap (λ (k : ℕ). those (λ u. elem v (g u)) (tabulate (λ u. u) 0 k)) e
  preds_more v (suc d) =
      let e : n + suc d ≡ n + d + 1 = omega arith in
      let t : elem v (g (0 + (n + d))) ≡ false = refuted (elem v (g (0 + (n + d)))) (λ i. let l = below (0 + (n + d)) (ends (0 + (n + d)) v i).0 in omega (arith, l)) in
      ap (λ (k : ℕ). those (λ u. elem v (g u)) (tabulate (λ u. u) 0 k)) e
      ∙ ap (λ (xs : List ℕ). those (λ u. elem v (g u)) xs) (tabulate_more (λ u. u) 0 (n + d))
      ∙ those_last (λ u. elem v (g u)) (tabulate (λ u. u) 0 (n + d)) (0 + (n + d)) t
      ∙ preds_more v d

  preds_bound : (a : ℕ) → n ≤ a → preds g a ≡ preds g n
  preds_bound a h = λ i. λ v. (ap (λ (k : ℕ). preds g k v) (let e : a ≡ n + (a - n) = omega arith in e) ∙ preds_more v (a - n)) i

  -- the fuel never decides: any bound on the nodes gives the same groups
  pub cycled_fuel : (a : ℕ) → n ≤ a → cycled g a roots ≡ cycled g n roots
  unfolding cycled
  cycled_fuel a h =
      ap (λ (rs : List ℕ). groups (preds g a) a rs none) (finished_fuel g n roots below ends a h)
      ∙ ap (λ (p : ℕ → List ℕ). groups p a (finished g n roots) none) (preds_bound a h)
      ∙ groups_fuel (preds g n) n (λ v u i. below u (ends u v (edge_forth g n u v i)).0) a h (finished g n roots) none
      (λ x i. below x (sym (finished_roots g n roots below ends x) ∙ i))
