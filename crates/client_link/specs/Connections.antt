-- What connections tell.
use Rattle.std.specs.Prelude.{ℕ, None, Some, List, [], ◌++◌, Option, option_map, slice_range}
use Rattle.client_link.specs.Requests.{from_client}
use Rattle.client_link.specs.declared.request.Look.{Look}
use Rattle.client_link.specs.declared.request.Look.TheVariants.{Whole, Part, Other}
use Rattle.std.specs.declared.io.buffered.BufWriter.{BufWriter}
use Rattle.std.specs.declared.alloc.Global.{Global}
use Rattle.client_link.specs.declared.screen.Screened.{Screened}
use Rattle.client_link.specs.declared.line_by_line.Unread.{Unread}
use Rattle.client_link.specs.declared.connection.Wire.{Wire}
use Rattle.client_link.specs.declared.connection.Wire.TheVariants.{Open, Ended}

-- what is given of bytes that are held back and of those that come later, where this was seen of the first ones
abbrev pub given_of : Look → List ℕ → List ℕ → List ℕ
given_of Whole held later = []
given_of Part held later = from_client (held ++ later)
given_of Other held later = held ++ later

-- the first bytes of a stream that were read and not given yet
abbrev pub held_back : {S : Type 0} → Screened S → List ℕ
held_back s = slice_range s.first s.given s.held

-- the bytes that a stream will give, where those to its end are known, unless somebody may request that it ends before
abbrev pub before_end : {A : Type 0} → Option A → Option (List ℕ) → Option (List ℕ)
before_end None bytes = bytes
before_end (Some request) bytes = None

-- the bytes that were read line by line and not given yet
abbrev pub not_given : Unread → List ℕ
not_given unread = slice_range unread.bytes.items unread.given unread.read

-- the bytes that a screened stream will give, where those of the stream are known
abbrev pub screened : {S : Type 0} → (S → Option (List ℕ)) → Screened S → Option (List ℕ)
screened remaining s = option_map (given_of s.look (held_back s)) (remaining s.stream)

-- the reader of a connection, or what it was when the link ended
abbrev pub input_of : {R W : Type 0} → Wire R W → R
input_of (Open input output) = input
input_of (Ended input output failures) = input.value

-- the writer of a connection with its buffer, or what they were when the link ended
abbrev pub output_of : {R W : Type 0} → Wire R W → BufWriter W Global
output_of (Open input output) = output
output_of (Ended input output failures) = output.value

-- how many calls had failed when the link was ended, if it was
abbrev pub failed_at_end : {R W : Type 0} → Wire R W → Option ℕ
failed_at_end (Open input output) = None
failed_at_end (Ended input output failures) = Some failures
