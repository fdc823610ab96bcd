-- A bad message is told by a status that a reply may have.
use Rattle.std.proofs.Common.{ℕ, ◌≤◌, Bool, true, false, cond, not, Option, Some, None, List, ◌≡◌, subst, arith, take, drop, length}
use Rattle.std.specs.Prelude.{⊤, nat_lt, nat_le, slice_range, codes, map}
use Rattle.std.specs.List.{list_all}
use Rattle.httparse.specs.Grammar.{RequestHead}
use Rattle.httparse.specs.Spans.{name_and_value}
use Rattle.http_wire.specs.declared.request_head.SoundHead.{SoundHead}
use Rattle.http_wire.specs.declared.request_head.Judged.{Judged}
use Rattle.http_wire.specs.declared.request_head.Judged.TheVariants.{Sound, Faulty}
use Rattle.auth_grammar.specs.Names.{same_name}
use Rattle.http_wire.specs.Values.{is_empty, are_lengths, first_number}
use Rattle.http_wire.specs.Lines.{line_feeds}
use Rattle.http_wire.specs.RequestHead.{read_head}
use Rattle.http_wire.specs.Fields.{Pairs, fields_of}
use Rattle.http_wire.specs.HeadPlace.{head_place}
use Rattle.http_wire.specs.RequestChecks.{Named, is_wrong_host, fault_of, named_of, sound_head, judge_fault, judge_fields, judge_named, judge_head, judge}
use Rattle.http_wire.specs.Requests.{Front, Unfinished, Whole, Wrong, front_behind, front_at, front, with_body}

-- the statuses that a reply may have
pub record IsStatus (status : ℕ) : Type 0 where
  pub low : 200 ≤ status
  pub high : status ≤ 599

abbrev OfFault : Option ℕ → Type 0
OfFault None = ⊤
OfFault (Some status) = IsStatus status

abbrev OfJudged : Judged → Type 0
OfJudged (Sound head) = ⊤
OfJudged (Faulty status) = IsStatus status

abbrev OfFront : Front → Type 0
OfFront (Unfinished waits) = ⊤
OfFront (Whole waits request rest) = ⊤
OfFront (Wrong status) = IsStatus status

fault_if : (t : Bool) (status : ℕ) (other : Option ℕ) → IsStatus status → OfFault other → OfFault (cond t (Some status) other)
fault_if true status other p q = p
fault_if false status other p q = q

of_fault : (minor : ℕ) (n : Named) → OfFault (fault_of minor n)
unfolding fault_of
of_fault minor n =
    fault_if (is_wrong_host minor n.hosts) 400 _ (record { low = omega arith; high = omega arith })
    (fault_if (not (is_empty n.codings)) 411 _ (record { low = omega arith; high = omega arith })
    (fault_if (not (are_lengths n.lengths)) 400 _ (record { low = omega arith; high = omega arith })
    (fault_if (not (nat_le (first_number n.lengths) 1048576)) 413 _ (record { low = omega arith; high = omega arith })
    (fault_if (not (list_all (λ value. same_name value (codes "100-continue")) n.expects)) 417 _ (record { low = omega arith; high = omega arith }) tt))))

of_judge_fault : (fault : Option ℕ) (head : SoundHead) → OfFault fault → OfJudged (judge_fault fault head)
of_judge_fault None head p = tt
of_judge_fault (Some status) head p = p

of_named : (h : RequestHead) (fields : Option Pairs) → OfJudged (judge_named h fields)
unfolding judge_fields
of_named h None = record { low = omega arith; high = omega arith }
of_named h (Some fields) = of_judge_fault (fault_of h.minor (named_of fields)) (sound_head h.method h.target h.minor fields (named_of fields)) (of_fault h.minor (named_of fields))

of_head : (head : Option RequestHead) → OfJudged (judge_head head)
of_head None = record { low = omega arith; high = omega arith }
of_head (Some h) = of_named h (fields_of (map name_and_value h.fields))

judged_if : (t : Bool) (status : ℕ) (other : Judged) → IsStatus status → OfJudged other → OfJudged (cond t (Faulty status) other)
judged_if true status other p q = p
judged_if false status other p q = q

of_judge : (text : List ℕ) → OfJudged (judge text)
unfolding judge
of_judge text = judged_if (nat_lt 66 (line_feeds text)) 431 (judge_head (read_head text)) (record { low = omega arith; high = omega arith }) (of_head (read_head text))

behind_if : (t waits : Bool) (whole : Front) → OfFront whole → OfFront (cond t (Unfinished waits) whole)
behind_if true waits whole p = tt
behind_if false waits whole p = p

of_behind : (judged : Judged) (bytes : List ℕ) → OfJudged judged → OfFront (front_behind judged bytes)
of_behind (Faulty status) bytes p = p
of_behind (Sound head) bytes p = behind_if (nat_lt (length bytes) head.body_len) head.expects (Whole head.expects (with_body head.request (take head.body_len bytes)) (drop head.body_len bytes)) tt

of_place : (place : Option (ℕ × ℕ)) (bytes : List ℕ) → OfFront (front_at place bytes)
of_place None bytes = behind_if (nat_lt (length bytes) 16384) false (Wrong 431) (record { low = omega arith; high = omega arith })
of_place (Some place) bytes = of_behind (judge (slice_range bytes place.0 place.1)) (drop place.1 bytes) (of_judge (slice_range bytes place.0 place.1))

of_front : (bytes : List ℕ) → OfFront (front bytes)
unfolding front
of_front bytes = of_place (head_place (take 16384 bytes)) bytes

pub wrong_status : (bytes : List ℕ) (status : ℕ) → front bytes ≡ Wrong status → IsStatus status
wrong_status bytes status e = subst OfFront e (of_front bytes)
