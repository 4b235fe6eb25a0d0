-- the number of entries: there are words for each
use Rattle.entry_order.proofs.Splitting.{numbered, list-entries, user-room, dynamic-room, split-is, split_rest, count_is, count_room, count_turned}
use native.Mathlib.Omega.{arith}
use Rattle.entry_order.proofs.split_entries.Goals as goal

pub number-requires : goal.number-requires
number-requires c = (count_room _ _ c.header_of-h.ensures _ _ _ c.requires.numbers_in_bounds).2

pub group-requires-clause-entries : goal.group-requires-clause-entries
group-requires-clause-entries c =
    let n = count_room _ _ c.header_of-h.ensures _ _ _ c.requires.numbers_in_bounds in
    (numbered _ _ (count_is _ _ c.header_of-h.ensures) _ _ n.2 c.number.ensures, n.0, n.1)

pub copy_kind-users-requires-clause-entries : goal.copy_kind-users-requires-clause-entries
copy_kind-users-requires-clause-entries c =
    let is = count_is _ _ c.header_of-h.ensures in
    let n = count_room _ _ c.header_of-h.ensures _ _ _ c.requires.numbers_in_bounds in
    (list-entries _ _ is _ _ n.2 c.number.ensures _ _ n.1 c.group.ensures, user-room _ _ is _ _ n.2 c.number.ensures _ _ n.1 c.group.ensures)

pub copy_kind-requires-clause-entries : goal.copy_kind-requires-clause-entries
copy_kind-requires-clause-entries c =
    let is = count_is _ _ c.header_of-h.ensures in
    let n = count_room _ _ c.header_of-h.ensures _ _ _ c.requires.numbers_in_bounds in
    let room = dynamic-room _ _ is _ _ n.2 c.number.ensures _ _ n.1 c.group.ensures _ _ c.copy_kind-users.ensures in
    (list-entries _ _ is _ _ n.2 c.number.ensures _ _ n.1 c.group.ensures, omega (arith, room))

pub returns : goal.returns
returns c =
    let is = count_is _ _ c.header_of-h.ensures in
    let n = count_room _ _ c.header_of-h.ensures _ _ _ c.requires.numbers_in_bounds in
    let w =
    count_turned _ _ c.header_of-h.ensures _ _ _
    (split-is _ _ is _ _ n.2 c.number.ensures _ _ n.1 c.group.ensures _ _ c.copy_kind-users.ensures _ _ c.copy_kind.ensures)
    (split_rest _ _ is _ _ n.2 c.number.ensures _ _ n.1 c.group.ensures _ _ c.copy_kind-users.ensures _ _ c.copy_kind.ensures) in
    record { value = w.0; untouched = w.1 }
