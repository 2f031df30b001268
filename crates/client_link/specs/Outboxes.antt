-- What waits to be written to a writer.
use Rattle.std.specs.Prelude.{ℕ, List, drop, Option}
use Rattle.std.specs.Io.KnownBytes.{append_known}
use Rattle.client_link.specs.declared.outbox.Outbox.{Outbox}

-- the bytes that were taken and not written yet
abbrev pub unsent : {W : Type 0} → Outbox W → List ℕ
unsent box = drop box.sent box.bytes.items

-- the bytes that the writer has, and behind them those that are not written yet
abbrev pub taken : {W : Type 0} → (W → Option (List ℕ)) → Outbox W → Option (List ℕ)
taken contents box = append_known (contents box.writer) (unsent box)
