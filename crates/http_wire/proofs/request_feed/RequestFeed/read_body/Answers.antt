use Rattle.std.proofs.Common.{◌≡◌, ◌≤◌, ◌<◌, ◌+◌, ◌^◌, List, ℕ, length, take, drop, refl, sym, ap, subst, ◌∙◌, arith}
use Rattle.std.proofs.lemmas.Bool.{and_parts, not-true}
use Rattle.http_wire.specs.declared.request.Request.{Request}
use Rattle.http_wire.specs.Requests.{Whole}
use Rattle.http_wire.proofs.RequestFeedLemmas.{body_here, gives_continue, gives_need, gives_message, body_due, body_short, body_within, body_taken, tracks_start}
use Rattle.http_wire.proofs.request_feed.RequestFeed.read_body.Goals as goal

pub returns-then-owes : goal.returns-then-owes
returns-then-owes c =
    let i = c.self.inside in
    let a = c.args in
    let body = body_here i.rest i.at i.told _ a.self.now c.self.view_is c.requires.goes a.head a.start a.end c.requires.body in
    let owes = and_parts a.head.expects _ (sym c.owes.ensures ∙ c.if-owes.true) in
    gives_continue i.rest i.at i.told _ a.self.now c.self.view_is c.requires.goes (body_due i.rest a.head a.start a.end body ∙ owes.0) (not-true i.told owes.1)

pub behind-rest-requires : goal.behind-rest-requires
behind-rest-requires c =
    let i = c.self.inside in
    let a = c.args in
    let body = body_here i.rest i.at i.told _ a.self.now c.self.view_is c.requires.goes a.head a.start a.end c.requires.body in
    subst (λ (s : List ℕ). a.end ≤ length s) (sym c.as_slice.ensures) (body_within i.rest a.head a.start a.end body)

pub returns-then-rest-head : goal.returns-then-rest-head
returns-then-rest-head c =
    let i = c.self.inside in
    let a = c.args in
    let body = body_here i.rest i.at i.told _ a.self.now c.self.view_is c.requires.goes a.head a.start a.end c.requires.body in
    let behind : c.behind-rest.result.now ≡ drop a.end i.rest = c.behind-rest.ensures ∙ ap (drop a.end) c.as_slice.ensures in
    let short = subst (λ (s : List ℕ). length s < a.head.body_len) behind c.if-rest-head.true in
    gives_need i.rest i.at i.told _ a.self.now c.self.view_is c.requires.goes a.head.expects (body_short i.rest a.head a.start a.end body short) (sym c.owes.ensures ∙ c.if-owes.false)

pub take-requires : goal.take-requires
take-requires c =
    let i = c.self.inside in
    let a = c.args in
    let body = body_here i.rest i.at i.told _ a.self.now c.self.view_is c.requires.goes a.head a.start a.end c.requires.body in
    let behind : c.behind-rest.result.now ≡ drop a.end i.rest = c.behind-rest.ensures ∙ ap (drop a.end) c.as_slice.ensures in
    let enough = subst (λ (s : List ℕ). a.head.body_len ≤ length s) behind c.if-rest-head.false in
    let text : c.in-Ok.body ≡ take a.head.body_len (drop a.end i.rest) = c.in-Ok.ensures ∙ c.front_of.ensures ∙ ap (take a.head.body_len) behind in
    let count : a.end + c.len.result ≡ a.end + length c.in-Ok.body = ap (λ (n : ℕ). a.end + n) c.len.ensures.len in
    let taken = body_taken i.rest a.head a.start a.end body c.in-Ok.body (drop (a.end + c.len.result) i.rest) (a.end + c.len.result) text count refl enough in
    omega (arith, taken.2)

pub overflow_add-self : goal.overflow_add-self
overflow_add-self c =
    let i = c.self.inside in
    let a = c.args in
    let body = body_here i.rest i.at i.told _ a.self.now c.self.view_is c.requires.goes a.head a.start a.end c.requires.body in
    let behind : c.behind-rest.result.now ≡ drop a.end i.rest = c.behind-rest.ensures ∙ ap (drop a.end) c.as_slice.ensures in
    let enough = subst (λ (s : List ℕ). a.head.body_len ≤ length s) behind c.if-rest-head.false in
    let text : c.in-Ok.body ≡ take a.head.body_len (drop a.end i.rest) = c.in-Ok.ensures ∙ c.front_of.ensures ∙ ap (take a.head.body_len) behind in
    let count : a.end + c.len.result ≡ a.end + length c.in-Ok.body = ap (λ (n : ℕ). a.end + n) c.len.ensures.len in
    let taken = body_taken i.rest a.head a.start a.end body c.in-Ok.body c.take.new.self (a.end + c.len.result) text count c.take.ensures enough in
    let all : length c.take.new.self + (a.end + c.len.result) ≡ length i.rest = taken.2 in
    let bound : i.at + length i.rest < 2 ^ 63 = c.self.invariant.1 in
    omega arith

pub invariant_of-self-2 : goal.invariant_of-self-2
invariant_of-self-2 c =
    let i = c.self.inside in
    let a = c.args in
    let body = body_here i.rest i.at i.told _ a.self.now c.self.view_is c.requires.goes a.head a.start a.end c.requires.body in
    let behind : c.behind-rest.result.now ≡ drop a.end i.rest = c.behind-rest.ensures ∙ ap (drop a.end) c.as_slice.ensures in
    let enough = subst (λ (s : List ℕ). a.head.body_len ≤ length s) behind c.if-rest-head.false in
    let text : c.in-Ok.body ≡ take a.head.body_len (drop a.end i.rest) = c.in-Ok.ensures ∙ c.front_of.ensures ∙ ap (take a.head.body_len) behind in
    let count : a.end + c.len.result ≡ a.end + length c.in-Ok.body = ap (λ (n : ℕ). a.end + n) c.len.ensures.len in
    let taken = body_taken i.rest a.head a.start a.end body c.in-Ok.body c.take.new.self (a.end + c.len.result) text count c.take.ensures enough in
    let all : length c.take.new.self + (a.end + c.len.result) ≡ length i.rest = taken.2 in
    let bound : i.at + length i.rest < 2 ^ 63 = c.self.invariant.1 in
    (tracks_start (take 16384 c.take.new.self), omega arith)

pub returns : goal.returns
returns c =
    let i = c.self.inside in
    let a = c.args in
    let body = body_here i.rest i.at i.told _ a.self.now c.self.view_is c.requires.goes a.head a.start a.end c.requires.body in
    let behind : c.behind-rest.result.now ≡ drop a.end i.rest = c.behind-rest.ensures ∙ ap (drop a.end) c.as_slice.ensures in
    let enough = subst (λ (s : List ℕ). a.head.body_len ≤ length s) behind c.if-rest-head.false in
    let text : c.in-Ok.body ≡ take a.head.body_len (drop a.end i.rest) = c.in-Ok.ensures ∙ c.front_of.ensures ∙ ap (take a.head.body_len) behind in
    let count : a.end + c.len.result ≡ a.end + length c.in-Ok.body = ap (λ (n : ℕ). a.end + n) c.len.ensures.len in
    let taken = body_taken i.rest a.head a.start a.end body c.in-Ok.body c.take.new.self (a.end + c.len.result) text count c.take.ensures enough in
    gives_message i.rest i.at i.told _ a.self.now c.self.view_is c.requires.goes a.head.expects c.with_body.result c.take.new.self (a.end + c.len.result)
    (taken.0 ∙ ap (λ (r : Request). Whole a.head.expects r c.take.new.self) (sym c.with_body.ensures)) (sym c.owes.ensures ∙ c.if-owes.false) taken.1
