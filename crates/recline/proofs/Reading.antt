-- What reads gave, one after the other, and what was written then.
use Rattle.std.proofs.Common.{◌≡◌, ◌<◌, ◌≤◌, ℕ, ◌+◌, inl, inr, List, ◌++◌, take, Option, Some, None, Ok, sym, ap, append_assoc, subst, ◌∙◌, arith}
use Rattle.std.specs.Io.KnownBytes.{Appends, Consumes, IsAtEnd}
use Rattle.client_link.specs.declared.link.LinkFault.{LinkFault}
use Rattle.client_link.specs.Links.{up, LinkState, IsFault, IsSound, IsRead}
use Rattle.session.specs.SessionText.{most_reads}
use Rattle.recline.specs.Checking.{IsReadWhole}
use Rattle.recline.specs.Driving.{OnlyReads, WritesPart}
use Rattle.recline.specs.working.Driving.{ReadsAll}

pub consumes_then : (a b c : Option (List ℕ)) (x y : List ℕ) → Consumes a b x → Consumes b c y → Consumes a c (x ++ y)
consumes_then None b c x y p q = tt
consumes_then (Some xs) None c x y p q = absurd p
consumes_then (Some xs) (Some ys) None x y p q = absurd q
consumes_then (Some xs) (Some ys) (Some zs) x y p q = p ∙ ap (λ (l : List ℕ). x ++ l) q ∙ sym (append_assoc x y zs)

-- one read more is none too many
pub few_then : (first now next count : ℕ) → now ≡ up count first → count < most_reads → next ≡ up 1 now → next ≤ up most_reads first
few_then first now next count reads within counted = omega (arith, reads, within, counted)

-- so many reads gave these bytes, and nothing was written
pub record Reading (first now : LinkState) (bytes : List ℕ) (count : ℕ) : Type 0 where
  pub only : OnlyReads first now bytes
  pub sound : IsSound first now
  pub reads : now.reads ≡ up count first.reads

pub one_more : (first now next : LinkState) (bytes after buf : List ℕ) (n count : ℕ) → OnlyReads first now bytes → IsSound first now → now.reads ≡ up count first.reads
    → count < most_reads → IsRead {E = LinkFault} now next (Ok n) buf → after ≡ bytes ++ take n buf → Reading first next after (count + 1)
one_more first now next bytes after buf n count only sound reads within read is = record {
  only = record {
    few = few_then first.reads now.reads next.reads count reads within read.counted;
    consumed = subst (λ (l : List ℕ). Consumes first.left next.left l) (sym is) (consumes_then first.left now.left next.left bytes (take n buf) only.consumed read.bytes.0);
    held = read.held ∙ only.held;
    waiting = read.waiting ∙ only.waiting;
  };
  sound = record { failures = read.failures ∙ sound.failures; stalls = read.stalls ∙ sound.stalls; ended = read.ended ∙ sound.ended };
  reads = omega (arith, reads, read.counted);
}

-- what was read is all that there was, where no more was read then
pub read_whole : (old read new : LinkState) (text : List ℕ) → ReadsAll old read text → new.left ≡ read.left → new.reads ≡ read.reads → IsReadWhole old new text
read_whole old read new text reads left count = record {
  few = rw count reads.only.few;
  consumed = subst (λ (rest : Option (List ℕ)). Consumes old.left rest text) (sym left) reads.only.consumed;
  at_end = subst (λ (rest : Option (List ℕ)). IsAtEnd rest) (sym left) reads.at_end;
}

pub fault_behind : (old read new : LinkState) → IsSound old read → IsFault read new → IsFault old new
fault_behind old read new sound f = record {
  fault = elim f.fault [ inl g ↦ inl (omega (arith, g.0, sound.failures), g.1 ∙ sound.stalls) | inr g ↦ inr (g.0 ∙ sound.failures, omega (arith, g.1, sound.stalls)) ];
  ended = f.ended ∙ sound.ended;
}

-- what was written behind reads that did not fail
pub part_behind : (old read new : LinkState) (text line : List ℕ) → ReadsAll old read text → WritesPart read new line → WritesPart old new line
part_behind old read new text line reads wrote = record {
  part = wrote.part;
  more = wrote.more;
  text_is = wrote.text_is;
  written = subst (λ (held : Option (List ℕ)). Appends held new.held wrote.part) reads.only.held wrote.written;
  fault = fault_behind old read new reads.sound wrote.fault;
}
