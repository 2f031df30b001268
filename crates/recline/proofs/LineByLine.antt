-- The lines of a stream, as they are read and explained over a link.
use Rattle.std.proofs.Common.{◌≡◌, ◌≢◌, ◌<◌, ◌≤◌, ℕ, ◌+◌, ◌*◌, inl, inr, List, [], ◌++◌, length, take, Option, Some, None, Ok, Err, refl, sym, ap, append_assoc, subst, ◌∙◌, arith}
use Rattle.std.specs.Io.KnownBytes.{Appends, Consumes, Keeps}
use Rattle.std.proofs.lemmas.List.{append-nil}
use Rattle.client_link.specs.declared.link.LinkFault.{LinkFault}
use Rattle.client_link.specs.Links.{up, LinkState, IsSound, IsRead}
use Rattle.client_link.proofs.Sent.{appends_none, appends_then, sound_none, sound_then, fault_then}
use Rattle.report_line.specs.Cutting.{cut_from}
use Rattle.line_explain.specs.declared.explained.Explained.{Explained}
use Rattle.line_explain.specs.declared.stream.Explanations.{Explanations}
use Rattle.line_explain.specs.Streams.{told_lines, IsAfter, Goes}
use Rattle.line_explain.proofs.Streamed.{told_lines-append}
use Rattle.session.specs.SessionText.{most_reads}
use Rattle.recline.proofs.Reading.{consumes_then}
use Rattle.recline.specs.Driving.{HasFewReads, WritesAll, WritesPart}
use Rattle.recline.specs.Explaining.{Flushes, HasExplained, IsExplainedOver}
use Rattle.recline.specs.declared.explaining.LinesEnd.TheVariants as ends

-- ---- bytes

consumes_none : (a : Option (List ℕ)) → Consumes a a []
consumes_none None = tt
consumes_none (Some xs) = refl

consumes_kept : (a b c : Option (List ℕ)) (x : List ℕ) → Consumes a b x → Keeps b c → Consumes a c x
consumes_kept None b c x p k = tt
consumes_kept (Some xs) None c x p k = absurd p
consumes_kept (Some xs) (Some ys) None x p k = absurd k
consumes_kept (Some xs) (Some ys) (Some zs) x p k = p ∙ ap (λ (l : List ℕ). x ++ l) (sym k)

-- ---- so far

-- so many reads were made, and all lines of what they gave are explained; the stream is not too long
pub record IsGoing (first now : LinkState) (count : ℕ) (x : Explanations) : Type 0 where
  pub stream : List ℕ
  pub told : List Explained
  pub after : IsAfter stream told x
  pub consumed : Consumes first.left now.left stream
  pub written : Appends first.held now.held (told_lines 1 told)
  pub flushed : Flushes first now stream
  pub sound : IsSound first now
  pub reads : now.reads ≡ up count first.reads
  pub going : x.feed ≢ None
  pub few : x.told ≤ count * 8193

at_start : (x : Explanations) → IsAfter [] [] x → x.feed ≢ None
unfolding cut_from
at_start x after none = absurd (let some : Some [] ≡ None = sym after.stand ∙ none in cc)

pub starts : (first : LinkState) (x : Explanations) → IsAfter [] [] x → IsGoing first first 0 x
starts first x after = record {
  stream = [];
  told = [];
  after = after;
  consumed = consumes_none first.left;
  written = appends_none first.held;
  flushed = inr (refl, refl);
  sound = sound_none first;
  reads = omega arith;
  going = at_start x after;
  few = omega (arith, after.number);
}

-- the same behind one read more, of which nothing is explained yet
held_still : (a b c : Option (List ℕ)) (text : List ℕ) → Appends a b text → c ≡ b → Appends a c text
held_still a b c text appends same = subst (λ (held : Option (List ℕ)). Appends a held text) (sym same) appends

waits_still : (first now next : LinkState) (stream : List ℕ) → Flushes first now stream → next.waiting ≡ now.waiting → Flushes first next stream
waits_still first now next stream (inl none) same = inl (same ∙ none)
waits_still first now next stream (inr start) same = inr (start.0, same ∙ start.1)

pub explained_before : (first now next : LinkState) (count n : ℕ) (x : Explanations) (buf : List ℕ) (g : IsGoing first now count x) → IsRead {E = LinkFault} now next (Ok n) buf → HasExplained first next (g.stream ++ take n buf) g.stream g.told
explained_before first now next count n x buf g read = record {
  consumed = consumes_then first.left now.left next.left g.stream (take n buf) g.consumed read.bytes.0;
  explain = g.after.explain;
  written = held_still first.held now.held next.held (told_lines 1 g.told) g.written read.held;
  flushed = waits_still first now next g.stream g.flushed read.waiting;
}

read_sound : (first now next : LinkState) (n : ℕ) (buf : List ℕ) → IsSound first now → IsRead {E = LinkFault} now next (Ok n) buf → IsSound first next
read_sound first now next n buf sound read = record { failures = read.failures ∙ sound.failures; stalls = read.stalls ∙ sound.stalls; ended = read.ended ∙ sound.ended }

-- ---- the ends

pub few_reads : (first now next : LinkState) (count : ℕ) (x : Explanations) → IsGoing first now count x → count < most_reads → next.reads ≡ up 1 now.reads → HasFewReads first next
few_reads first now next count x g within read = omega (arith, g.reads, within, read)

pub all_reads : (first now : LinkState) (count : ℕ) (x : Explanations) → IsGoing first now count x → count ≤ most_reads → HasFewReads first now
all_reads first now count x g within = omega (arith, g.reads, within)

pub read_failed : (first now next : LinkState) (count : ℕ) (x : Explanations) (fault : LinkFault) (buf : List ℕ) → IsGoing first now count x → IsRead now next (Err fault) buf → IsExplainedOver first next ends.Device
read_failed first now next count x fault buf g read =
    inr (
      g.stream,
      g.told,
      record {
        consumed = consumes_kept first.left now.left next.left g.stream g.consumed read.bytes;
        explain = g.after.explain;
        written = held_still first.held now.held next.held (told_lines 1 g.told) g.written read.held;
        flushed = waits_still first now next g.stream g.flushed read.waiting;
      },
      inl (omega (arith, read.failures, g.sound.failures), read.stalls ∙ g.sound.stalls),
    )

pub read_ended : (first now next : LinkState) (count n : ℕ) (x : Explanations) (buf : List ℕ) → IsGoing first now count x → IsRead {E = LinkFault} now next (Ok n) buf → n ≡ 0 → 0 < length buf → IsExplainedOver first next (ends.Told x.calls)
read_ended first now next count n x buf g read none room =
    let nothing : g.stream ++ take n buf ≡ g.stream = ap (λ (k : ℕ). g.stream ++ take k buf) none ∙ append-nil g.stream in (
      g.stream,
      g.told,
      subst (λ (bytes : List ℕ). HasExplained first next bytes g.stream g.told) nothing (explained_before first now next count n x buf g read),
      g.after.calls,
      inl (read.bytes.1 none room),
      read_sound first now next n buf g.sound read,
    )

pub memory_wanting : (first now next : LinkState) (count n : ℕ) (x : Explanations) (buf : List ℕ) → IsGoing first now count x → IsRead {E = LinkFault} now next (Ok n) buf → IsExplainedOver first next ends.Memory
memory_wanting first now next count n x buf g read = (g.stream, take n buf, g.told, explained_before first now next count n x buf g read, read_sound first now next n buf g.sound read)

-- the text of the lines so far, and of those of one piece more
text_of : (told more : List Explained) (text : List ℕ) → text ≡ told_lines (length told + 1) more → told_lines 1 (told ++ more) ≡ told_lines 1 told ++ text
text_of told more text is = told_lines-append 1 told more ∙ ap (λ (l : List ℕ). told_lines 1 told ++ l) (ap (λ (k : ℕ). told_lines k more) (omega arith) ∙ sym is)

pub write_failed : (first now next last : LinkState) (count n : ℕ) (x new : Explanations) (buf text : List ℕ) (g : IsGoing first now count x) → IsRead {E = LinkFault} now next (Ok n) buf → Goes g.stream g.told (take n buf) new text
    → WritesPart next last text → last.left ≡ next.left → IsExplainedOver first last ends.Device
write_failed first now next last count n x new buf text g read goes wrote left =
    let before = explained_before first now next count n x buf g read in
    inl (
      g.stream ++ take n buf,
      record {
        told = g.told ++ goes.more;
        consumed = subst (λ (rest : Option (List ℕ)). Consumes first.left rest (g.stream ++ take n buf)) (sym left) before.consumed;
        explain = goes.after.explain;
        part = told_lines 1 g.told ++ wrote.part;
        more = wrote.more;
        text_is = text_of g.told goes.more text goes.text_is ∙ ap (λ (l : List ℕ). told_lines 1 g.told ++ l) wrote.text_is ∙ sym (append_assoc (told_lines 1 g.told) wrote.part wrote.more);
        written = appends_then first.held next.held last.held (told_lines 1 g.told) wrote.part before.written wrote.written;
        fault = fault_then first next last (read_sound first now next n buf g.sound read) wrote.fault;
      },
    )

pub no_end : (first now : LinkState) (count : ℕ) (x : Explanations) → IsGoing first now count x → count ≡ most_reads → IsExplainedOver first now ends.Device
no_end first now count x g all =
    inr (
      g.stream,
      g.told,
      record { consumed = g.consumed; explain = g.after.explain; written = g.written; flushed = g.flushed },
      inr (g.sound, g.reads ∙ ap (λ (k : ℕ). up k first.reads) all),
    )

-- ---- one piece more, of which all is written

module _ (first now next last : LinkState) (count n : ℕ) (x new : Explanations) (buf text : List ℕ) (g : IsGoing first now count x) (read : IsRead {E = LinkFault} now next (Ok n) buf) (goes : Goes g.stream g.told (take n buf) new text)
    (wrote : WritesAll next last text) (left : last.left ≡ next.left) where
  done : HasExplained first last (g.stream ++ take n buf) (g.stream ++ take n buf) (g.told ++ goes.more)
  done =
      let before = explained_before first now next count n x buf g read in
      record {
        consumed = subst (λ (rest : Option (List ℕ)). Consumes first.left rest (g.stream ++ take n buf)) (sym left) before.consumed;
        explain = goes.after.explain;
        written = subst (λ (l : List ℕ). Appends first.held last.held l) (sym (text_of g.told goes.more text goes.text_is)) (appends_then first.held next.held last.held (told_lines 1 g.told) text before.written wrote.written);
        flushed = inl wrote.nothing_waits;
      }

  still_sound : IsSound first last
  still_sound = sound_then first next last (read_sound first now next n buf g.sound read) wrote.sound

  pub too_long_told : new.feed ≡ None → IsExplainedOver first last (ends.Told new.calls)
  too_long_told none = (g.stream ++ take n buf, g.told ++ goes.more, done, goes.after.calls, inr (sym goes.after.stand ∙ none), still_sound)

  pub goes_further : new.feed ≢ None → last.reads ≡ next.reads → new.told ≤ x.told + n + 1 → n ≤ 8192 → IsGoing first last (count + 1) new
  goes_further going reads few within = record {
    stream = g.stream ++ take n buf;
    told = g.told ++ goes.more;
    after = goes.after;
    consumed = done.consumed;
    written = done.written;
    flushed = done.flushed;
    sound = still_sound;
    reads = omega (arith, g.reads, read.counted, reads);
    going = going;
    few = omega (arith, few, within, g.few);
  }
