-- Paths, and edges the other way round.
use Prim.Native.Nat.{ℕ, ◌<◌}
use mathlib.Core.List.{List}
use native.Mathlib.Omega.{arith}
use Rattle.graph_access.specs.Words.{tabulate}
use Rattle.keep_record.specs.Lines.{elem}
use Rattle.cycles.specs.Cycles.{Edge, Reaches, preds}
use Rattle.cycles.specs.Cycles.Reaches.{here, along}
use Rattle.cycles.proofs.Members.{in_those, those_in, in_count}

-- edges whose both ends have a property
abbrev pub Among : (ℕ → Type 0) → (ℕ → ℕ → Type 0) → ℕ → ℕ → Type 0
Among P E u v = P u × (P v × E u v)

pub joined : {E : ℕ → ℕ → Type 0} {u v w : ℕ} → Reaches E u v → Reaches E v w → Reaches E u w
joined (here u) q = q
joined (along u v w e p) q = along u v _ e (joined p q)

pub mapped : {E F : ℕ → ℕ → Type 0} → ((x y : ℕ) → E x y → F x y) → {u v : ℕ} → Reaches E u v → Reaches F u v
mapped f (here u) = here u
mapped f (along u v w e p) = along u v w (f u v e) (mapped f p)

-- a path whose end has the property begins with it
pub begins : {P : ℕ → Type 0} {E : ℕ → ℕ → Type 0} {u v : ℕ} → Reaches (Among P E) u v → P v → P u
begins (here u) h = h
begins (along u v w e p) h = e.0

-- a property that every edge hands on
pub handed : {E : ℕ → ℕ → Type 0} (S : ℕ → Type 0) → ((x y : ℕ) → E x y → S x → S y) → {u v : ℕ} → Reaches E u v → S u → S v
handed S f (here u) h = h
handed S f (along u v w e p) h = handed S f p (f u v e h)

-- ---- the edges of `preds`

pub edge_back : (g : ℕ → List ℕ) (n u v : ℕ) → u < n → Edge g u v → Edge (preds g n) v u
unfolding preds
edge_back g n u v h e = in_those (λ x. elem v (g x)) u (tabulate (λ x. x) 0 n) (in_count u 0 n (omega arith) (omega arith)) e

pub edge_forth : (g : ℕ → List ℕ) (n u v : ℕ) → Edge (preds g n) v u → Edge g u v
unfolding preds
edge_forth g n u v e = (those_in (λ x. elem v (g x)) u (tabulate (λ x. x) 0 n) e).1
