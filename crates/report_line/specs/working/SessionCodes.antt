-- How the logic stores what calls and replies are seen as.
use Rattle.std.specs.Prelude.{◌≡◌, ◌⊎◌, ℕ, zero, suc, Bool, List, [], ◌∷◌, Option, get_or, refl}
use Rattle.std.specs.Coded.{Coded, code_by, coded×, coded⊎, coded_ℕ, coded_bool, coded_list, coded_option}
use Rattle.std.proofs.Common.{inl, inr}
use Rattle.report_line.specs.working.Codes.{report_code}
use Rattle.report_line.specs.declared.report.Report.{Report}
use Rattle.report_line.specs.declared.marked.MarkedReport.{MarkedReport}
use Rattle.report_line.specs.declared.code.Code.{Code}
use Rattle.report_line.specs.declared.code.Code.TheVariants.{NothingBegun, OtherRoot, UnknownProcess, Ended, WrongNumber, NotWaiting, WrongId, NotGrown, NameTaken, WrongParts, WrongTarget, NotJoined, Full, OutOfMemory, OtherFront, OtherEpoch}
use Rattle.report_line.specs.declared.reply.Outcome.{Outcome}
use Rattle.report_line.specs.declared.reply.Outcome.TheVariants.{Before, Unknown, Stopped}
use Rattle.report_line.specs.declared.call.Call.{Call}
use Rattle.report_line.specs.declared.call.Call.TheVariants as calls
use Rattle.report_line.specs.declared.reply.Reply.{Reply}
use Rattle.report_line.specs.declared.reply.Reply.TheVariants as replies
use Rattle.report_line.specs.Replies.{code_number}

-- bytes, as of a name or a text
abbrev coded_bytes : Coded (List ℕ)
coded_bytes = coded_list coded_ℕ

-- the refusals by their numbers; 0, 1, 2, 17 and those behind the last one are of none, and any does
abbrev refusals : List Code
refusals =
    NothingBegun ∷ NothingBegun ∷ NothingBegun ∷ UnknownProcess ∷ Ended ∷ WrongNumber ∷ WrongId ∷ NotGrown ∷ NameTaken ∷ WrongParts ∷ WrongTarget ∷ NotWaiting ∷ NotJoined ∷ OtherRoot ∷ NothingBegun ∷ Full ∷ OutOfMemory ∷ NothingBegun ∷ OtherFront ∷ OtherEpoch ∷ []

-- the refusal of a number
abbrev pub code_of : ℕ → Code
code_of n = get_or refusals n NothingBegun

pub code_of-code_number : (c : Code) → code_of (code_number c) ≡ c
code_of-code_number NothingBegun = refl
code_of-code_number OtherRoot = refl
code_of-code_number UnknownProcess = refl
code_of-code_number Ended = refl
code_of-code_number WrongNumber = refl
code_of-code_number NotWaiting = refl
code_of-code_number WrongId = refl
code_of-code_number NotGrown = refl
code_of-code_number NameTaken = refl
code_of-code_number WrongParts = refl
code_of-code_number WrongTarget = refl
code_of-code_number NotJoined = refl
code_of-code_number Full = refl
code_of-code_number OutOfMemory = refl
code_of-code_number OtherFront = refl
code_of-code_number OtherEpoch = refl

abbrev pub code_code : Coded Code
code_code = code_by ℕ coded_ℕ code_number code_of code_of-code_number

abbrev pub outcome_number : Outcome → ℕ
outcome_number Before = 0
outcome_number Unknown = 1
outcome_number Stopped = 2

abbrev pub outcome_of : ℕ → Outcome
outcome_of zero = Before
outcome_of (suc zero) = Unknown
outcome_of (suc (suc n)) = Stopped

pub outcome_of-outcome_number : (o : Outcome) → outcome_of (outcome_number o) ≡ o
outcome_of-outcome_number Before = refl
outcome_of-outcome_number Unknown = refl
outcome_of-outcome_number Stopped = refl

abbrev pub outcome_code : Coded Outcome
outcome_code = code_by ℕ coded_ℕ outcome_number outcome_of outcome_of-outcome_number

abbrev pub marked_code : Coded MarkedReport
marked_code = code_by (ℕ × Report) (coded× coded_ℕ report_code) (λ m. (m.epoch, m.report)) (λ p. record { epoch = p.0; report = p.1 }) (λ _. refl)

-- a report, a front with names, names, a name, a number, and the calls that have none of these
abbrev pub CallFields : Type 0
CallFields = MarkedReport ⊎ ((ℕ × List (List ℕ)) ⊎ (List (List ℕ) ⊎ (List ℕ ⊎ (ℕ ⊎ ℕ))))

abbrev pub call_fields : Call → CallFields
call_fields (calls.Report m) = inl m
call_fields (calls.Settle front ns) = inr (inl (front, ns))
call_fields (calls.Line ns) = inr (inr (inl ns))
call_fields (calls.State p) = inr (inr (inr (inl p)))
call_fields (calls.Bad n) = inr (inr (inr (inr (inl n))))
call_fields calls.Garbage = inr (inr (inr (inr (inr 0))))
call_fields calls.Bye = inr (inr (inr (inr (inr 1))))
call_fields calls.Unread = inr (inr (inr (inr (inr 2))))

-- the call without fields, by its kind
abbrev pub plain_call : ℕ → Call
plain_call zero = calls.Garbage
plain_call (suc zero) = calls.Bye
plain_call (suc (suc kind)) = calls.Unread

abbrev pub call_of : CallFields → Call
call_of (inl m) = calls.Report m
call_of (inr (inl f)) = calls.Settle f.0 f.1
call_of (inr (inr (inl ns))) = calls.Line ns
call_of (inr (inr (inr (inl p)))) = calls.State p
call_of (inr (inr (inr (inr (inl n))))) = calls.Bad n
call_of (inr (inr (inr (inr (inr kind))))) = plain_call kind

pub call_of-call_fields : (c : Call) → call_of (call_fields c) ≡ c
call_of-call_fields (calls.Report m) = refl
call_of-call_fields (calls.Settle front ns) = refl
call_of-call_fields (calls.Line ns) = refl
call_of-call_fields calls.Garbage = refl
call_of-call_fields (calls.State p) = refl
call_of-call_fields calls.Bye = refl
call_of-call_fields (calls.Bad n) = refl
call_of-call_fields calls.Unread = refl

abbrev pub call_code : Coded Call
call_code =
    code_by CallFields (coded⊎ marked_code (coded⊎ (coded× coded_ℕ (coded_list coded_bytes)) (coded⊎ (coded_list coded_bytes) (coded⊎ coded_bytes (coded⊎ coded_ℕ coded_ℕ))))) call_fields call_of call_of-call_fields

-- a refusal, the state of a process, a text, an outcome, and the replies that have one number or none
abbrev pub ReplyFields : Type 0
ReplyFields =
    (Code × (Option (List ℕ) × Option (List ℕ)))
    ⊎ ((List ℕ × (ℕ × (ℕ × (Bool × List ℕ)))) ⊎ (List ℕ ⊎ (Outcome ⊎ (ℕ × ℕ))))

abbrev pub reply_fields : Reply → ReplyFields
reply_fields (replies.No code name value) = inl (code, (name, value))
reply_fields (replies.State name reports elements live id) = inr (inl (name, (reports, (elements, (live, id)))))
reply_fields (replies.Line text) = inr (inr (inl text))
reply_fields (replies.Fail outcome) = inr (inr (inr (inl outcome)))
reply_fields replies.Bye = inr (inr (inr (inr (0, 0))))
reply_fields (replies.Accepted front) = inr (inr (inr (inr (1, front))))
reply_fields (replies.Old front) = inr (inr (inr (inr (2, front))))
reply_fields (replies.Bad number) = inr (inr (inr (inr (3, number))))
reply_fields (replies.Taken front) = inr (inr (inr (inr (4, front))))
reply_fields (replies.Settled epoch front) = inr (inr (inr (inr (suc (suc (suc (suc (suc epoch)))), front))))

-- the reply with a number, by its kind; what is behind the last kind is the epoch of a settlement
abbrev pub numbered_reply : ℕ → ℕ → Reply
numbered_reply zero n = replies.Bye
numbered_reply (suc zero) n = replies.Accepted n
numbered_reply (suc (suc zero)) n = replies.Old n
numbered_reply (suc (suc (suc zero))) n = replies.Bad n
numbered_reply (suc (suc (suc (suc zero)))) n = replies.Taken n
numbered_reply (suc (suc (suc (suc (suc epoch))))) n = replies.Settled epoch n

abbrev pub reply_of : ReplyFields → Reply
reply_of (inl f) = replies.No f.0 f.1.0 f.1.1
reply_of (inr (inl f)) = replies.State f.0 f.1.0 f.1.1.0 f.1.1.1.0 f.1.1.1.1
reply_of (inr (inr (inl text))) = replies.Line text
reply_of (inr (inr (inr (inl outcome)))) = replies.Fail outcome
reply_of (inr (inr (inr (inr f)))) = numbered_reply f.0 f.1

pub reply_of-reply_fields : (r : Reply) → reply_of (reply_fields r) ≡ r
reply_of-reply_fields (replies.Accepted front) = refl
reply_of-reply_fields (replies.Old front) = refl
reply_of-reply_fields (replies.No code name value) = refl
reply_of-reply_fields (replies.Bad number) = refl
reply_of-reply_fields (replies.Fail outcome) = refl
reply_of-reply_fields (replies.Line text) = refl
reply_of-reply_fields (replies.State name reports elements live id) = refl
reply_of-reply_fields replies.Bye = refl
reply_of-reply_fields (replies.Taken front) = refl
reply_of-reply_fields (replies.Settled epoch front) = refl

abbrev pub reply_code : Coded Reply
reply_code =
    code_by ReplyFields (coded⊎ (coded× code_code (coded× (coded_option coded_bytes) (coded_option coded_bytes))) (coded⊎ (coded× coded_bytes (coded× coded_ℕ (coded× coded_ℕ (coded× coded_bool coded_bytes)))) (coded⊎ coded_bytes (coded⊎ outcome_code (coded× coded_ℕ coded_ℕ))))) reply_fields reply_of reply_of-reply_fields
