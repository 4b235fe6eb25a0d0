-- The starts by kind and the run's own starts, in the order of its steps, are the same facts: what holds of every one of these holds of every one of
-- those (`own-by-kind`, `by_kind_own`). A step adds lines behind the others and leaves live modules live, so what the end of the main part says of taken
-- lines and of live modules was said of them by the round that brought them.
use Prim.Native.Nat.{ℕ, zero, suc, ◌+◌, ◌≤◌, ◌<◌}
use mathlib.Core.Path.{◌≡◌, refl, ap, ◌∙◌, sym, subst}
use mathlib.Core.Bool.{Bool, true, false, ◌||◌, true≢false}
use mathlib.Core.List.{List, [], ◌∷◌, ◌++◌, append_assoc}
use native.Mathlib.Decide.{ℕ_discrete, dec_lt}
use native.Mathlib.Omega.{arith}
use borrow.Author.Tests.{eq-eqb, eqb-true}
use lib.Dec.{eqb}
use lib.ListN.{length, take, drop, take-append-drop}
use lib.Seq.{take-take}
use Rattle.determine_side_effects.specs.graph_crate.Check.{Graph, graph_in}
use Rattle.determine_side_effects.specs.graph_crate.Loaded.{Loaded}
use Rattle.determine_side_effects.specs.facts_crate.declared.Fact.{Fact}
use Rattle.keep_record.specs.declared.Line.{Line}
use Rattle.entry_order.specs.Order.{module_of_entry, user_entries}
use Rattle.entry_starts.specs.Starts.{module_starts, user_starts}
use Rattle.dynamic_entries.specs.Sorted.{sorted_entries}
use Rattle.dynamic_entries.specs.Tries.{Progress, starting, lives, now_live, now_dead, tried, tries}
use Rattle.passes.specs.Bailouts.{bailouts_starts, bailout_starts}
use Rattle.tree_shaking.specs.Rounds.{users_starts, bailed, round, goes_on, rounds_fuel, Ended, ended_at, rounds_from, no_one, begun, main_part}
use Rattle.tree_shaking.specs.Own.{Start, entry, bailouts, by, of_users, of_try, of_tries, of_round, of_rounds, own_starts, run_starts, live_starts, starts_by_kind}
use Rattle.tree_shaking.proofs.Longer.{taken_more}
use Rattle.closed_choices.proofs.Every.{Every, every_append, every_left, every_right}
use Rattle.run_choices.proofs.GoodStarts.{none_behind}
use Rattle.run_choices.proofs.Further.{Further, goes_longer, goes_front, goes-take, tries_further, round_further, rounds_further}
use Rattle.run_choices.proofs.Growing.{facts_of, facts_append, facts_by}

-- the starts by kind at the end of a main part
abbrev pub main_by_kind : Graph → List ℕ → List Fact
main_by_kind g v = starts_by_kind g (main_part g v).end.live (take (main_part g v).taken (main_part g v).end.lines)

pub bailouts-append : (g : Graph) (a b : List Line) → bailouts_starts g (a ++ b) ≡ bailouts_starts g a ++ bailouts_starts g b
unfolding bailouts_starts
bailouts-append g [] b = refl
bailouts-append g (l ∷ ls) b = ap (λ (x : List Fact). bailout_starts g l.fact ++ x) (bailouts-append g ls b) ∙ sym (append_assoc (bailout_starts g l.fact) (bailouts_starts g ls) (bailouts_starts g b))

-- the bailouts of the first n lines, then those of the others
bailouts_split : (g : Graph) (n : ℕ) (lines : List Line) → bailouts_starts g lines ≡ bailouts_starts g (take n lines) ++ bailouts_starts g (drop n lines)
bailouts_split g n lines = ap (λ (l : List Line). bailouts_starts g l) (sym (take-append-drop n lines)) ∙ bailouts-append g (take n lines) (drop n lines)

users_facts : (g : Graph) (es : List ℕ) → facts_of (of_users g es) ≡ users_starts g es
unfolding of_users users_starts facts_of
users_facts g [] = refl
users_facts g (e ∷ es) =
    facts_append (by (entry e) (user_starts g (module_of_entry g e))) (of_users g es)
    ∙ ap (λ (l : List Fact). l ++ facts_of (of_users g es)) (facts_by (entry e) (user_starts g (module_of_entry g e)))
    ∙ ap (λ (l : List Fact). user_starts g (module_of_entry g e) ++ l) (users_facts g es)

module _ (g : Graph) (v : List ℕ) where
  -- a try of an entry, by whether its module was live and whether it lives now: what it comes to, and what it starts
  abbrev after : ℕ → Progress → Bool → Bool → Progress
  after e p a b = elim a [ true ↦ p | false ↦ elim b [ true ↦ starting g v (module_starts g (module_of_entry g e)) (now_live g e p) | false ↦ now_dead e p ] ]

  abbrev begins : ℕ → Bool → Bool → List Start
  begins e a b = elim a [ true ↦ [] | false ↦ elim b [ true ↦ by (entry e) (module_starts g (module_of_entry g e)) | false ↦ [] ] ]

  -- the lines that were there before a round, in what it comes to
  lines_before : (taken : ℕ) (p : Progress) → take (length p.lines) (round g v taken p).lines ≡ p.lines
  lines_before taken p = goes_front p.lines (round g v taken p).lines (round_further g v taken p).lines_go

  module _ (P : Fact → Type 0) where
    abbrev Starts : List Start → Type 0
    Starts xs = Every P (facts_of xs)

    -- the property, of starts one after another and of those of one party
    starts-both : (xs ys : List Start) → Starts xs → Starts ys → Starts (xs ++ ys)
    starts-both xs ys a b = rw (facts_append xs ys) (every_append P (facts_of xs) (facts_of ys) a b)

    starts_first : (xs ys : List Start) → Starts (xs ++ ys) → Starts xs
    starts_first xs ys a = every_left P (facts_of xs) (facts_of ys) (subst (λ (l : List Fact). Every P l) (facts_append xs ys) a)

    starts-second : (xs ys : List Start) → Starts (xs ++ ys) → Starts ys
    starts-second xs ys a = every_right P (facts_of xs) (facts_of ys) (subst (λ (l : List Fact). Every P l) (facts_append xs ys) a)

    -- of what live modules start, and of what the bailouts of the first n lines do
    abbrev LiveHolds : (ℕ → Bool) → Type 0
    LiveHolds live = (m : ℕ) → live m ≡ true → Every P (module_starts g m)

    abbrev Bails : List Line → Type 0
    Bails lines = Every P (bailouts_starts g lines)

    bails-both : (n : ℕ) (lines : List Line) → Bails (take n lines) → Bails (drop n lines) → Bails lines
    bails-both n lines a b = rw (bailouts_split g n lines) (every_append P (bailouts_starts g (take n lines)) (bailouts_starts g (drop n lines)) a b)

    bails-first : (n : ℕ) (lines : List Line) → Bails lines → Bails (take n lines)
    bails-first n lines a = every_left P (bailouts_starts g (take n lines)) (bailouts_starts g (drop n lines)) (subst (λ (l : List Fact). Every P l) (bailouts_split g n lines) a)

    bails-rest : (n : ℕ) (lines : List Line) → Bails lines → Bails (drop n lines)
    bails-rest n lines a = every_right P (bailouts_starts g (take n lines)) (bailouts_starts g (drop n lines)) (subst (λ (l : List Fact). Every P l) (bailouts_split g n lines) a)

    -- a try
    try-starts : (e : ℕ) (p : Progress) → LiveHolds (tried g v e p).live → Starts (of_try g v e p)
    unfolding tried of_try starting now_live facts_of
    try-starts e p = go (p.live (module_of_entry g e)) (lives g v p e)
      where
        go : (a b : Bool) → LiveHolds (after e p a b).live → Starts (begins e a b)
        go true b h = tt
        go false true h =
            let m = module_of_entry g e in
            subst (λ (l : List Fact). Every P l) (sym (facts_by (entry e) (module_starts g m))) (h m (ap (λ (b : Bool). b || p.live m) (eq-eqb m m refl)))
        go false false h = tt

    try_live : (e : ℕ) (p : Progress) → LiveHolds p.live → Starts (of_try g v e p) → LiveHolds (tried g v e p).live
    unfolding tried of_try starting now_live now_dead
    try_live e p l = go (p.live (module_of_entry g e)) (lives g v p e)
      where
        go : (a b : Bool) → Starts (begins e a b) → LiveHolds (after e p a b).live
        go true b h = l
        go false true h = λ m x. pick m (eqb m (module_of_entry g e)) refl x
          where
            pick : (m : ℕ) (c : Bool) → eqb m (module_of_entry g e) ≡ c → (c || p.live m) ≡ true → Every P (module_starts g m)
            pick m true q x =
                subst (λ (k : ℕ). Every P (module_starts g k)) (sym (eqb-true m (module_of_entry g e) q))
                (subst (λ (l : List Fact). Every P l) (facts_by (entry e) (module_starts g (module_of_entry g e))) h)
            pick m false q x = l m x
        go false false h = l

    -- the tries of a round
    tries-starts : (es : List ℕ) (p : Progress) → LiveHolds (tries g v es p).live → Starts (of_tries g v es p)
    unfolding tries of_tries facts_of
    tries-starts [] p h = tt
    tries-starts (e ∷ es) p h =
        starts-both (of_try g v e p) (of_tries g v es (tried g v e p)) (try-starts e p (λ m x. h m ((tries_further g v es (tried g v e p)).live_stays m x))) (tries-starts es (tried g v e p) h)

    tries-live : (es : List ℕ) (p : Progress) → LiveHolds p.live → Starts (of_tries g v es p) → LiveHolds (tries g v es p).live
    unfolding tries of_tries
    tries-live [] p l h = l
    tries-live (e ∷ es) p l h =
        let rest = of_tries g v es (tried g v e p) in
        tries-live es (tried g v e p) (try_live e p l (starts_first (of_try g v e p) rest h)) (starts-second (of_try g v e p) rest h)

    -- taken bailouts and live modules, as of a progress
    record Holds (taken : ℕ) (p : Progress) : Type 0 where
      of-taken : Bails (take taken p.lines)
      of_live : LiveHolds p.live

    abbrev HoldsAt : Ended → Type 0
    HoldsAt e = Holds e.taken e.end

    -- a round: its starts follow from what it comes to, and what it comes to from its starts
    round-starts : (taken : ℕ) (p : Progress) → Holds (length p.lines) (round g v taken p) → Starts (of_round g v taken p)
    unfolding round of_round
    round-starts taken p h =
        let facts = bailouts_starts g (drop taken p.lines) in
        let all : Bails p.lines = subst (λ (l : List Line). Bails l) (lines_before taken p) h.of-taken in
        starts-both (by bailouts facts) (of_tries g v (sorted_entries g) (bailed g v taken p))
        (subst (λ (l : List Fact). Every P l) (sym (facts_by bailouts facts)) (bails-rest taken p.lines all)) (tries-starts (sorted_entries g) (bailed g v taken p) h.of_live)

    round-holds : (taken : ℕ) (p : Progress) → Holds taken p → Starts (of_round g v taken p) → Holds (length p.lines) (round g v taken p)
    unfolding round of_round bailed starting
    round-holds taken p h k =
        let facts = bailouts_starts g (drop taken p.lines) in
        let rest = of_tries g v (sorted_entries g) (bailed g v taken p) in
        let here : Bails (drop taken p.lines) = subst (λ (l : List Fact). Every P l) (facts_by bailouts facts) (starts_first (by bailouts facts) rest k) in
        record {
          of-taken = subst (λ (l : List Line). Bails l) (sym (lines_before taken p)) (bails-both taken p.lines h.of-taken here);
          of_live = tries-live (sorted_entries g) (bailed g v taken p) h.of_live (starts-second (by bailouts facts) rest k);
        }

    -- all rounds
    rounds-hold : (fuel made taken : ℕ) (p : Progress) → Holds taken p → Starts (of_rounds g v fuel taken p) → HoldsAt (rounds_from g v (goes_on g) fuel made taken p)
    unfolding rounds_from of_rounds
    rounds-hold zero made taken p h k = h
    rounds-hold (suc fuel) made taken p h k =
        go (λ n q. rounds-hold fuel (made + 1) (length p.lines) (round g v taken p) n q) (goes_on g p (round g v taken p)) k
      where
        next : Progress
        next = round g v taken p

        one : List Start
        one = of_round g v taken p

        later : List Start
        later = of_rounds g v fuel (length p.lines) next

        go : (Holds (length p.lines) next → Starts later → HoldsAt (rounds_from g v (goes_on g) fuel (made + 1) (length p.lines) next))
            → (b : Bool) → Starts (one ++ elim b [ true ↦ later | false ↦ [] ])
            → HoldsAt (elim b [ true ↦ rounds_from g v (goes_on g) fuel (made + 1) (length p.lines) next | false ↦ ended_at (made + 1) (length p.lines) next ])
        go more true k = more (round-holds taken p h (starts_first one later k)) (starts-second one later k)
        go more false k = round-holds taken p h (starts_first one [] k)

    -- what is taken and live in the end was so at an earlier moment
    earlier : (at t : ℕ) (p q : Progress) → at ≤ length p.lines → at ≤ t → Further p q → Holds t q → Holds at p
    earlier at t p q l u o w =
        let same : take at (take t q.lines) ≡ take at p.lines = take-take at t q.lines u ∙ goes-take p.lines q.lines o.lines_go at l in
        record { of-taken = subst (λ (x : List Line). Bails x) same (bails-first at (take t q.lines) w.of-taken); of_live = λ m x. w.of_live m (o.live_stays m x) }

    rounds-start : (fuel made taken : ℕ) (p : Progress) → HoldsAt (rounds_from g v (goes_on g) fuel made taken p) → Starts (of_rounds g v fuel taken p)
    unfolding rounds_from of_rounds facts_of
    rounds-start zero made taken p k = tt
    rounds-start (suc fuel) made taken p k =
        go (λ w. rounds-start fuel (made + 1) (length p.lines) (round g v taken p) w) (goes_on g p (round g v taken p)) k
      where
        next : Progress
        next = round g v taken p

        end : Ended
        end = rounds_from g v (goes_on g) fuel (made + 1) (length p.lines) next

        one : List Start
        one = of_round g v taken p

        later : List Start
        later = of_rounds g v fuel (length p.lines) next

        go : (HoldsAt end → Starts later) → (b : Bool) → HoldsAt (elim b [ true ↦ end | false ↦ ended_at (made + 1) (length p.lines) next ]) → Starts (one ++ elim b [ true ↦ later | false ↦ [] ])
        go more true w =
            let l = goes_longer p.lines next.lines (round_further g v taken p).lines_go in
            let u = (taken_more g v (goes_on g) fuel (made + 1) (length p.lines) next l).0 in
            starts-both one later (round-starts taken p (earlier (length p.lines) end.taken next end.end l u (rounds_further g v (goes_on g) fuel (made + 1) (length p.lines) next) w)) (more w)
        go more false w = starts-both one [] (round-starts taken p w) tt

    -- what live modules start, one module after another
    live-each : (live : ℕ → Bool) (m n : ℕ) → Every P (live_starts g live m n) → (k : ℕ) → m ≤ k → k < m + n → live k ≡ true → Every P (module_starts g k)
    unfolding live_starts
    live-each live m zero h k l u e = absurd (omega (arith, u))
    live-each live m (suc n) h k l u e =
        let this : List Fact = elim (live m) [ true ↦ module_starts g m | false ↦ [] ] in
        go (ℕ_discrete m k) (every_left P this (live_starts g live (m + 1) n) h) (λ d. live-each live (m + 1) n (every_right P this (live_starts g live (m + 1) n) h) k (omega (arith, d)) (omega (arith, u)) e)
      where
        here : (b : Bool) → live m ≡ b → m ≡ k → Every P (elim b [ true ↦ module_starts g m | false ↦ [] ]) → Every P (module_starts g k)
        here true x q f = subst (λ (i : ℕ). Every P (module_starts g i)) q f
        here false x q f = absurd (true≢false (sym e ∙ ap live (sym q) ∙ x))

        go : Dec (m ≡ k) → Every P (elim (live m) [ true ↦ module_starts g m | false ↦ [] ]) → (m + 1 ≤ k → Every P (module_starts g k)) → Every P (module_starts g k)
        go (yes q) f later = here (live m) refl q f
        go (no q) f later = later (omega (arith, q))

    each_live : (live : ℕ → Bool) (m n : ℕ) → LiveHolds live → Every P (live_starts g live m n)
    unfolding live_starts
    each_live live m zero h = tt
    each_live live m (suc n) h = every_append P (elim (live m) [ true ↦ module_starts g m | false ↦ [] ]) (live_starts g live (m + 1) n) (go (live m) refl) (each_live live (m + 1) n h)
      where
        go : (b : Bool) → live m ≡ b → Every P (elim b [ true ↦ module_starts g m | false ↦ [] ])
        go true e = h m e
        go false e = tt

    -- at the beginning no line is taken and no module is live
    begun-holds : Holds 0 (begun g v)
    unfolding begun starting no_one bailouts_starts take
    begun-holds = record { of-taken = tt; of_live = λ m e. absurd (true≢false (sym e)) }

    abbrev of-users : List Fact
    of-users = users_starts g (user_entries g)

    abbrev of_rounds_holds : List Start
    of_rounds_holds = of_rounds g v (rounds_fuel g) 0 (begun g v)

    abbrev of_bailouts : List Fact
    of_bailouts = bailouts_starts g (take (main_part g v).taken (main_part g v).end.lines)

    abbrev of_modules : List Fact
    of_modules = live_starts g (main_part g v).end.live 0 g.header.modules

    own-are : run_starts g v ≡ of-users ++ facts_of of_rounds_holds
    unfolding run_starts own_starts facts_of
    own-are = facts_append (of_users g (user_entries g)) of_rounds_holds ∙ ap (λ (l : List Fact). l ++ facts_of of_rounds_holds) (users_facts g (user_entries g))

    pub own-by-kind : Every P (run_starts g v) → Every P (main_by_kind g v)
    unfolding starts_by_kind main_part
    own-by-kind h =
        let k = subst (λ (l : List Fact). Every P l) own-are h in
        let r = rounds-hold (rounds_fuel g) 0 0 (begun g v) begun-holds (every_right P of-users (facts_of of_rounds_holds) k) in
        every_append P of-users (of_bailouts ++ of_modules) (every_left P of-users (facts_of of_rounds_holds) k)
        (every_append P of_bailouts of_modules r.of-taken (each_live (main_part g v).end.live 0 g.header.modules r.of_live))

    -- where nothing is started behind the modules
    own-if : ((m : ℕ) → g.header.modules ≤ m → module_starts g m ≡ []) → Every P (main_by_kind g v) → Every P (run_starts g v)
    unfolding starts_by_kind main_part
    own-if none h =
        let rest = every_right P of-users (of_bailouts ++ of_modules) h in
        let holds : HoldsAt (main_part g v) =
        record { of-taken = every_left P of_bailouts of_modules rest; of_live = λ m e. go m (dec_lt m g.header.modules) (every_right P of_bailouts of_modules rest) e } in
        subst (λ (l : List Fact). Every P l) (sym own-are)
        (every_append P of-users (facts_of of_rounds_holds) (every_left P of-users (of_bailouts ++ of_modules) h) (rounds-start (rounds_fuel g) 0 0 (begun g v) holds))
      where
        go : (m : ℕ) → Dec (m < g.header.modules) → Every P of_modules → (main_part g v).end.live m ≡ true → Every P (module_starts g m)
        go m (yes u) a e = live-each (main_part g v).end.live 0 g.header.modules a m (omega arith) (omega (arith, u)) e
        go m (no u) a e = let l : g.header.modules ≤ m = omega (arith, u) in subst (λ (l : List Fact). Every P l) (sym (none m l)) tt

pub by_kind_own : {numbers tables : List ℕ} → Loaded numbers tables → (v : List ℕ) (P : Fact → Type 0) → Every P (main_by_kind (graph_in numbers) v) → Every P (run_starts (graph_in numbers) v)
unfolding graph_in
by_kind_own {numbers} t v P h = own-if (graph_in numbers) v P (none_behind t) h
