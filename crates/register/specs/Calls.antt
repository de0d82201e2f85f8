-- The calls of a register, and what each does.
use Rattle.std.specs.Prelude.{◌≡◌, ℕ, ◌+◌, Bool, not, ◌&&◌, List, [], ◌∷◌, ◌++◌, length, ℤ, Some, None, Ok, Err, Option, Result, nat_lt}
use Rattle.loads.specs.declared.Load.{Load}
use Rattle.loads.specs.Answers.{◌>>=◌, check, marked, wanted}
use Rattle.loads.specs.Loads.{empty}
use Rattle.loads.specs.Tests.{alike}
use Rattle.orders.specs.Laws.{Relation}
use Rattle.worksheet.specs.declared.equation.Equation.{Equation}
use Rattle.worksheet.specs.Replay.{replay, net}
use Rattle.questions.specs.declared.placed.Place.TheVariants.{Argument}
use Rattle.questions.specs.Asking.{reduce_at}
use Rattle.completion.specs.Capacities.{in_limits}
use Rattle.completion.specs.States.{State}
use Rattle.completion.specs.Rounds.{settle}
use Rattle.refusals.specs.declared.Refusal.{Refusal}
use Rattle.refusals.specs.declared.Refusal.TheVariants as refusal
use Rattle.refusals.specs.declared.Told.{Told}
use Rattle.refusals.specs.Refusals.{told, as_refusal}
use Rattle.register.specs.Contents.{Contents, lines_of}
use Rattle.register.specs.Matching.{Verdict, match}

-- a call, with what it brings; an order comes as its relation
pub data Call : Type 0 where
  Enter : Equation → Call
  Settle : Relation → (capacity budget : ℕ) → Call
  Reopen : Call
  Standard : Load → (budget : ℕ) → Call
  Match : Load → Load → (room budget : ℕ) → Call
  Replay : Load → (chain : List ℤ) → Call

-- what an answered call gives, or what is told of its refusal
pub data Reply : Type 0 where
  Entered : (number : ℕ) → Reply
  Counted : (rules lines steps : ℕ) → Reply
  Reopened : Reply
  Reduced : (standard : Load) → (steps : ℕ) → Reply
  Matched : Verdict → Reply
  Replayed : (end : Load) → (net : List ℤ) → Reply
  Refused : Told → Reply

-- what an answered call gives, and what the register then holds
pub record Done : Type 0 where
  pub reply : Reply
  pub contents : Contents

-- refused on a settled register
abbrev pub open_only : Option State → Result (Unit {0}) Refusal
open_only None = Ok tt
open_only (Some s) = Err refusal.NotOpen

-- refused on an open register
abbrev pub settled_only : Option State → Result State Refusal
settled_only s = wanted s refusal.NotSettled

-- both sides have a piece
abbrev pub filled : Equation → Bool
filled e = not (alike e.left empty) && not (alike e.right empty)

-- adds an equation at the end of the book, and gives its number
abbrev pub entering : Contents → Equation → Result Done Refusal
entering c e =
    open_only c.sheet >>= λ _.
    check (filled e) refusal.EmptySide >>= λ _.
    check (nat_lt (length c.book) 32) refusal.BookFull >>= λ _.
    Ok (record { reply = Entered (length c.book + 1); contents = record { book = c.book ++ (e ∷ []); sheet = c.sheet } })

-- makes the rounds, and counts rules, all lines and steps
abbrev pub settling : Contents → Relation → (capacity budget : ℕ) → Result Done Refusal
settling c above capacity budget =
    open_only c.sheet >>= λ _.
    check (in_limits capacity) refusal.Capacity >>= λ _.
    marked as_refusal (settle above capacity c.book budget) >>= λ x.
    Ok (record {
      reply = Counted (length x.1.table) (length c.book + length x.1.added) x.0;
      contents = record { book = c.book; sheet = Some x.1 };
    })

-- drops the table and the added lines
abbrev pub reopening : Contents → Result Done Refusal
reopening c = settled_only c.sheet >>= λ _. Ok (record { reply = Reopened; contents = record { book = c.book; sheet = None } })

-- reduces a load to its standard load, and counts the steps
abbrev pub standardizing : Contents → Load → (budget : ℕ) → Result Done Refusal
standardizing c a budget =
    settled_only c.sheet >>= λ s.
    marked refusal.Step (reduce_at (Argument 1) s.table budget a) >>= λ w.
    Ok (record { reply = Reduced w.end (length w.trail); contents = c })

-- says whether two loads are equal
abbrev pub matching : Contents → Load → Load → (room budget : ℕ) → Result Done Refusal
matching c a b room budget =
    settled_only c.sheet >>= λ s.
    match s.table a b room budget >>= λ v.
    Ok (record { reply = Matched v; contents = c })

-- follows a chain by the register's lines, and gives the end and the net of each article
abbrev pub replaying : Contents → Load → List ℤ → Result Done Refusal
replaying c a chain =
    marked refusal.Replay (replay (lines_of c) 1 chain a) >>= λ b.
    Ok (record { reply = Replayed b (net a b); contents = c })

-- what a call does, or why it is refused
abbrev pub attempt : Contents → Call → Result Done Refusal
attempt c (Enter e) = entering c e
attempt c (Settle above capacity budget) = settling c above capacity budget
attempt c Reopen = reopening c
attempt c (Standard a budget) = standardizing c a budget
attempt c (Match a b room budget) = matching c a b room budget
attempt c (Replay a chain) = replaying c a chain

-- a refused call changes nothing
abbrev pub concluded : Contents → Result Done Refusal → Done
concluded c (Ok d) = d
concluded c (Err e) = record { reply = Refused (told e); contents = c }

-- the reply to a call, and what the register holds after it
abbrev pub perform : Contents → Call → Done
perform c call = concluded c (attempt c call)

-- the reply that a result stands for
abbrev pub replied : {X : Type 0} → (X → Reply) → Result X Refusal → Reply
replied f (Ok x) = f x
replied f (Err e) = Refused (told e)

-- the call gives this reply and leaves these contents
pub record Did (before : Contents) (call : Call) (reply : Reply) (after : Contents) : Type 0 where
  pub said : (perform before call).reply ≡ reply
  pub left : (perform before call).contents ≡ after

-- what a register holds after calls, each finding what the one before left
abbrev pub after_calls : Contents → List Call → Contents
after_calls c [] = c
after_calls c (call ∷ calls) = after_calls (perform c call).contents calls
