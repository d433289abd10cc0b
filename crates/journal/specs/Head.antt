-- The head of an entry as the code has it. Assumes nothing.
use Rattle.std.specs.Prelude.{ℕ, ◌≡◌, ◌+◌, ◌≤◌, List, length}
use Rattle.journal.specs.declared.format.Head.{Head}
use Rattle.journal.specs.Entry.{body_length_of, head_bytes}
use Rattle.journal.specs.Held.{first_size, first_entry}
use Rattle.journal.specs.Kind.{kind_number}

-- the bytes begin with a whole entry, and this is its head
pub record HeadsFirst (bytes : List ℕ) (head : Head) : Type 0 where
  pub kind : (first_entry bytes).kind ≡ kind_number head.kind
  pub day : (first_entry bytes).day ≡ head.day
  pub size : first_size bytes ≡ head_bytes + body_length_of (kind_number head.kind)
  pub whole : first_size bytes ≤ length bytes
