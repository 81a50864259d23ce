-- The replies that are kept under retry keys. The Schema Registry API reference has no retry keys: each definition here is this project's choice.
use Rattle.std.specs.Prelude.{ℕ, List, Option, Some, None, bytes_eq, if◌then◌else◌}
use Rattle.reg_core.specs.Replies.{ReplyView}

-- The entry of a retry key: the text of its command, and its reply.
pub record KeptEntry : Type 0 where
  pub command : List ℕ
  pub reply : ReplyView

-- The kept entries, by key.
abbrev pub Kept : Type 0
Kept = List ℕ → Option KeptEntry

-- No entries.
abbrev pub nothing_kept : Kept
nothing_kept key = None

-- The kept entries, with this one under the key.
abbrev pub kept_with : Kept → List ℕ → KeptEntry → Kept
kept_with k key entry q = if bytes_eq key q then Some entry else k q

-- The entry with this command text and this reply.
abbrev pub entry_with : List ℕ → ReplyView → KeptEntry
entry_with text reply = record { command = text; reply = reply }
