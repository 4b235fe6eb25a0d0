-- Where a walk ends, by the walks that it is made of.
-- One number by its rule, a list by its count.
use Prim.Native.Nat.{ℕ, suc, ◌+◌, ◌<◌, ◌≤◌}
use mathlib.Core.Path.{◌≡◌, refl, ap, ◌∙◌, sym}
use mathlib.Core.List.{List, [], ◌∷◌}
use borrow.Author.Tests.{lt-ltb, le-ltb, le-leb, lt-leb}
use lib.ListN.{length, get_or}
use Rattle.rows.specs.Walk.{Parsed, got, fault, and_then, Rule, value, count, within, obeys, number, cells, many, ListRule, list, lists, firsts, walk_of, onward}
use Rattle.std.specs.Prelude.{Result, Ok, Err}
use Rattle.refusal.specs.declared.Refusal.{Refusal}
use Rattle.refusal.specs.declared.Refusal.TheVariants.{OverLimit, OutOfRange, WrongLength}

pub clash : {q : ℕ} {why : Refusal} → ◌≡◌ {A = Result ℕ Refusal} (Ok q) (Err why) → ⊥
clash e = cc

pub at_same : {q p : ℕ} → ◌≡◌ {A = Result ℕ Refusal} (Ok q) (Ok p) → q ≡ p
at_same e = cc

-- a walk that goes on has read something
pub at_got : {A : Type 0} (x : Parsed A) (q : ℕ) → walk_of x ≡ Ok q → (a : A) × (x ≡ got a q)
unfolding walk_of
at_got (got a p) q e = (a, ap (got a) (at_same e))
at_got (fault why) q e = absurd (clash (sym e))

-- one that does not has the same fault
pub fault_is : {A : Type 0} (x : Parsed A) (why : Refusal) → walk_of x ≡ Err why → x ≡ fault why
unfolding walk_of
fault_is (got a q) why e = absurd (clash e)
fault_is (fault other) why e = cc

-- a walk by two walks, of which the second goes by the first one's end alone
pub walk_then : {A B : Type 0} (x : Parsed A) (k : A → ℕ → Parsed B) (f : ℕ → Result ℕ Refusal) → ((a : A) (q : ℕ) → x ≡ got a q → walk_of (k a q) ≡ f q)
    → walk_of (and_then x k) ≡ onward (walk_of x) f
unfolding walk_of and_then onward
walk_then (got a q) k f h = h a q refl
walk_then (fault why) k f h = refl

-- what is made of the things read does not move the end
pub walk-map : {A B : Type 0} (x : Parsed A) (f : A → B) → walk_of (and_then x (λ a q. got (f a) q)) ≡ walk_of x
unfolding walk_of and_then
walk-map (got a q) f = refl
walk-map (fault why) f = refl

pub onward_at : {w : Result ℕ Refusal} {q : ℕ} (f : ℕ → Result ℕ Refusal) → w ≡ Ok q → onward w f ≡ f q
unfolding onward
onward_at f e = rw e

pub onward_fault : {w : Result ℕ Refusal} {why : Refusal} (f : ℕ → Result ℕ Refusal) → w ≡ Err why → onward w f ≡ Err why
unfolding onward
onward_fault f e = rw e

pub cells_cons : (r : Rule) (rs : List Rule) (numbers : List ℕ) (at : ℕ)
    → walk_of (cells (r ∷ rs) numbers at) ≡ onward (walk_of (number r numbers at)) (λ q. walk_of (cells rs numbers q))
unfolding cells
cells_cons r rs numbers at = walk_then (number r numbers at) _ _ (λ x q e. walk-map (cells rs numbers q) (λ xs. x ∷ xs))

pub lists_cons : (r : ListRule) (rs : List ListRule) (numbers : List ℕ) (at : ℕ)
    → walk_of (lists (r ∷ rs) numbers at) ≡ onward (walk_of (list r numbers at)) (λ q. walk_of (lists rs numbers q))
unfolding lists
lists_cons r rs numbers at = walk_then (list r numbers at) _ _ (λ x q e. walk-map (lists rs numbers q) (λ xs. x ∷ xs))

-- what stands at one place, by the tests of its rule
module _ (numbers : List ℕ) (at x : ℕ) (is : x ≡ get_or numbers at 0) where
  pub number_missing : (r : Rule) → length numbers ≤ at → number r numbers at ≡ fault (WrongLength at)
  unfolding number
  number_missing r h = rw (le-ltb at (length numbers) h, number)

  there : (r : Rule) → at < length numbers → number r numbers at ≡ obeys r x at
  unfolding number
  there r h = rw (lt-ltb at (length numbers) h, is, number)

  within_low : (low limit : ℕ) → x < low → within low limit x at ≡ fault (OutOfRange at)
  unfolding within
  within_low low limit l = rw (lt-ltb x low l, within)

  within_high : (low limit : ℕ) → low ≤ x → limit ≤ x → within low limit x at ≡ fault (OutOfRange at)
  unfolding within
  within_high low limit l m = rw (le-ltb x low l, le-leb limit x m, within)

  within_good : (low limit : ℕ) → low ≤ x → x < limit → within low limit x at ≡ got x (at + 1)
  unfolding within
  within_good low limit l m = rw (le-ltb x low l, lt-leb limit x m, within)

  counted : (most low limit : ℕ) → x ≤ most → obeys (count most low limit) x at ≡ within low limit x at
  unfolding obeys
  counted most low limit o = rw (le-ltb most x o, obeys)

  pub value_low : (low limit : ℕ) → at < length numbers → x < low → number (value low limit) numbers at ≡ fault (OutOfRange at)
  unfolding obeys
  value_low low limit h l = there (value low limit) h ∙ within_low low limit l

  pub value_high : (low limit : ℕ) → at < length numbers → low ≤ x → limit ≤ x → number (value low limit) numbers at ≡ fault (OutOfRange at)
  unfolding obeys
  value_high low limit h l m = there (value low limit) h ∙ within_high low limit l m

  pub value_good : (low limit : ℕ) → at < length numbers → low ≤ x → x < limit → number (value low limit) numbers at ≡ got x (at + 1)
  unfolding obeys
  value_good low limit h l m = there (value low limit) h ∙ within_good low limit l m

  pub count_over : (most low limit : ℕ) → at < length numbers → most < x → number (count most low limit) numbers at ≡ fault (OverLimit at)
  unfolding obeys
  count_over most low limit h o = there (count most low limit) h ∙ rw (lt-ltb most x o, obeys)

  pub count_missing : (most low limit : ℕ) → length numbers ≤ at → number (count most low limit) numbers at ≡ number (value low limit) numbers at
  count_missing most low limit h = number_missing (count most low limit) h ∙ sym (number_missing (value low limit) h)

  -- a count that is not too large is a value
  pub count_value : (most low limit : ℕ) → at < length numbers → x ≤ most → number (count most low limit) numbers at ≡ number (value low limit) numbers at
  unfolding obeys
  count_value most low limit h o = there (count most low limit) h ∙ counted most low limit o ∙ sym (there (value low limit) h)

module _ {S A : Type 0} (step : S → ℕ → Parsed A) (next : S → A → S) where
  pub many_go : (k at : ℕ) (s : S) {q : ℕ} {a : A} → step s at ≡ got a q → walk_of (many step next (suc k) s at) ≡ walk_of (many step next k (next s a) q)
  unfolding many and_then
  many_go k at s {q} {a} e = rw (e, many, and_then) (walk-map (many step next k (next s a) q) (λ xs. a ∷ xs))

  pub many_stop : (k at : ℕ) (s : S) {why : Refusal} → walk_of (step s at) ≡ Err why → walk_of (many step next (suc k) s at) ≡ Err why
  unfolding many walk_of
  many_stop k at s {why} e = walk_then (step s at) _ (λ q. Err why) (λ a q f. absurd (clash (sym (ap walk_of f) ∙ e))) ∙ onward_fault _ e

  pub many_none : (at : ℕ) (s : S) → walk_of (many step next 0 s at) ≡ Ok at
  unfolding many walk_of
  many_none at s = refl

-- a list, by its count
module _ (rule : ListRule) (numbers : List ℕ) (at : ℕ) where
  pub list_go : {x y q : ℕ} → number (count 16384 0 rule.counts) numbers at ≡ got x q → x ≡ y → list rule numbers at ≡ many rule.row firsts y [] q
  unfolding list and_then
  list_go e f = rw (e, f, list, and_then)

  pub list_stop : {why : Refusal} → walk_of (number (count 16384 0 rule.counts) numbers at) ≡ Err why → walk_of (list rule numbers at) ≡ Err why
  unfolding list and_then walk_of
  list_stop {why} e = ap walk_of (list-fault (fault_is _ why e))
    where
      list-fault : number (count 16384 0 rule.counts) numbers at ≡ fault why → list rule numbers at ≡ fault why
      list-fault f = rw (f, list, and_then)
