-- Which nodes lie in a strongly connected component with another member (T12).
use Rattle.std.specs.Prelude.{ℕ, ◌≡◌, Bool, true, false, List, [], ◌∷◌, ◌++◌, ltb, length}
use Rattle.graph_access.specs.Words.{tabulate}
use Rattle.keep_record.specs.Lines.{elem}
use Rattle.entry_order.specs.Order.{those}
use Rattle.cycles.specs.Search.{none, walk, finished}

abbrev pub Edge : (ℕ → List ℕ) → ℕ → ℕ → Type 0
Edge g u v = elem v (g u) ≡ true

-- one reaches the other by edges; a path may be empty
pub data Reaches (E : ℕ → ℕ → Type 0) : ℕ → ℕ → Type 0 where
  here : (u : ℕ) → Reaches E u u
  along : (u v w : ℕ) → E u v → Reaches E v w → Reaches E u w

-- The published definition: two nodes are strongly connected if each reaches the other. Here: such a node, and another.
pub record OnCycle (g : ℕ → List ℕ) (m : ℕ) : Type 0 where
  pub other : ℕ
  pub differs : other ≡ m → ⊥
  pub to : Reaches (Edge g) m other
  pub back : Reaches (Edge g) other m

-- the nodes below n with an edge to v
unfoldable pub preds : (ℕ → List ℕ) → ℕ → ℕ → List ℕ
preds g n v = those (λ u. elem v (g u)) (tabulate (λ u. u) 0 n)

-- a group of more than one
unfoldable pub several : List ℕ → List ℕ
several xs = elim (ltb 1 (length xs)) [ true ↦ xs | false ↦ [] ]

-- what each root's walk over reversed edges newly enters is a group
unfoldable pub groups : (ℕ → List ℕ) → ℕ → List ℕ → (ℕ → Bool) → List ℕ
groups p fuel [] seen = []
groups p fuel (r ∷ rs) seen =
    let s = walk p fuel r (record { seen = seen; done = [] }) in
    several s.done ++ groups p fuel rs s.seen

-- Kosaraju's two walks over nodes below n: the second over reversed edges, from the last finished down
unfoldable pub cycled : (ℕ → List ℕ) → ℕ → List ℕ → List ℕ
cycled g n roots = groups (preds g n) n (finished g n roots) none
