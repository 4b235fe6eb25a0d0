-- Limits that go by a module's kind, or by an owner's statements.
use Prim.Native.Nat.{ℕ, ◌+◌, ◌<◌, ◌≤◌}
use mathlib.Core.Path.{◌≡◌}
use mathlib.Core.Logic.{◌≢◌}
use mathlib.Core.Bool.{Bool, true, false}
use borrow.Author.Tests.{eq-eqb, ne_eqb, lt-ltb, le-ltb}
use Rattle.graph_format.specs.Format.{namespace_limit, least_statements, statement_limit, owners_counts}

module _ (kind symbols : ℕ) where
  pub namespace_none : kind ≡ 0 → 1 ≡ namespace_limit kind symbols
  unfolding namespace_limit
  namespace_none e = rw (eq-eqb kind 0 e, namespace_limit)

  pub namespace_some : kind ≢ 0 → symbols + 1 ≡ namespace_limit kind symbols
  unfolding namespace_limit
  namespace_some d = rw (ne_eqb kind 0 d, namespace_limit)

  pub statement_none : kind ≡ 0 → 1 ≡ statement_limit kind symbols
  unfolding statement_limit
  statement_none e = rw (eq-eqb kind 0 e, statement_limit)

  pub statement_some : kind ≢ 0 → symbols + 1 ≡ statement_limit kind symbols
  unfolding statement_limit
  statement_some d = rw (ne_eqb kind 0 d, statement_limit)

module _ (kind left : ℕ) (last : Bool) where
  pub least_kind : last ≡ true → left < kind → kind ≡ least_statements kind left last
  unfolding least_statements
  least_kind e h = rw (e, lt-ltb left kind h, least_statements)

  pub least_left : last ≡ true → kind ≤ left → left ≡ least_statements kind left last
  unfolding least_statements
  least_left e h = rw (e, le-ltb left kind h, least_statements)

  pub least_other : last ≡ false → kind ≡ least_statements kind left last
  unfolding least_statements
  least_other e = rw (e, least_statements)

pub owners_none : (n : ℕ) → n ≡ 0 → 1 ≡ owners_counts n
unfolding owners_counts
owners_none n e = rw (eq-eqb n 0 e, owners_counts)

pub owners_some : (n : ℕ) → n ≢ 0 → 16385 ≡ owners_counts n
unfolding owners_counts
owners_some n d = rw (ne_eqb n 0 d, owners_counts)
