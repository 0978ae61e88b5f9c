-- `next_entry` meets its contract.
use Rattle.scanning.proofs.Exits.{goes_on}
use Rattle.scanning.proofs.Entries.{told, entry_unnamed}
use Rattle.scanning.proofs.names.next_entry.Goals as goal

pub returns-in_err-end : goal.returns-in_err-end
returns-in_err-end c =
    let no_end = told c.args.some c.byte_at-sign.ensures c.is_end.ensures c.if-is_end.false in
    rw (goes_on c.from_residual.ensures.1) (entry_unnamed c.args.some c.skip_blanks-start.ensures no_end c.if-start-at.false c.in_err-end.ensures)
