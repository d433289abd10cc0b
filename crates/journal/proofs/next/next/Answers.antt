-- What stands at the place is a whole entry.
use Rattle.std.proofs.Common.{rules}
use Rattle.journal.proofs.Calls.{next_found}
use Rattle.journal.proofs.next.next.Goals as goal

pub returns : goal.returns
returns c = next_found _ _ _ c.in_ok-rest.rest.now (search rules) (search rules) (search rules) (search rules) _ _ (search rules) c.entry_size.ensures
