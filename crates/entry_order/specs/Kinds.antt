-- The entries of one kind: the dynamic ones, or the user-defined ones.
use Rattle.std.specs.Prelude.{ℕ, Bool, true, false}
use Rattle.facts.specs.graph_crate.Check.{Graph}
use Rattle.entry_order.specs.Order.{is_dynamic, is_user_defined}

abbrev pub of_kind : Graph → Bool → ℕ → Bool
of_kind g true = is_dynamic g
of_kind g false = is_user_defined g
