use Rattle.std.proofs.Common.{◌≡◌, ◌<◌, ◌∙◌, List, ap, subst, sym}
use Rattle.cred_store.specs.declared.entry.Entry.{Entry}
use Rattle.auth_decide.specs.Decisions.{AsksWithin, Deciding, asks_left}
use Rattle.auth_decide.specs.Stages.{Replied, stage_after, stage_after_reply}
use Rattle.auth_decide.specs.declared.stages.Stage.{Stage}
use Rattle.auth_decide.proofs.Few.{reply_fewer}
use Rattle.auth_decide.proofs.Within.{reply_within}
use Rattle.auth_decide.proofs.decision.Decision.answer.Goals as goal

pub invariant_of-self-2 : goal.invariant_of-self-2
invariant_of-self-2 c =
    let d = c.self.inside in
    let within = subst (λ (s : Stage). AsksWithin d.shards s) (sym c.replace-stage.ensures.value) c.self.invariant.within in
    record {
      space = c.self.invariant.space;
      realm = c.self.invariant.realm;
      some = c.self.invariant.some;
      within = subst (λ (s : Stage). AsksWithin d.shards s) (sym (c.put.ensures ∙ c.in_ok-next.ensures))
          (reply_within d.shards d.request.now d.site.now.store c.replace-stage.result c.args.reply.now within);
    }

pub returns-clause-fewer : goal.returns-clause-fewer
returns-clause-fewer c =
    let d = c.args.self.now in
    let stage : c.replace-stage.result ≡ d.stage = c.replace-stage.ensures.value ∙ ap (λ (x : Deciding). x.stage) c.self.view_is in
    let request = ap (λ (x : Deciding). x.question.request) c.self.view_is in
    let shards = ap (λ (x : Deciding). x.question.shards) c.self.view_is in
    let store = ap (λ (x : Deciding). x.question.site.store) c.self.view_is in
    let next : c.put.new.place ≡ stage_after d.question d.stage (Replied c.args.reply.now) =
    c.put.ensures ∙ c.in_ok-next.ensures
    ∙ ap (λ (r : _). stage_after_reply r c.self.inside.site.now.store c.self.inside.shards c.replace-stage.result c.args.reply.now) request
    ∙ ap (λ (x : List Entry). stage_after_reply d.question.request x c.self.inside.shards c.replace-stage.result c.args.reply.now) store
    ∙ ap (λ (n : _). stage_after_reply d.question.request d.question.site.store n c.replace-stage.result c.args.reply.now) shards
    ∙ ap (λ (s : Stage). stage_after_reply d.question.request d.question.site.store d.question.shards s c.args.reply.now) stage in
    subst (λ (s : Stage). asks_left s < asks_left d.stage) (sym next) (reply_fewer d.question d.stage c.args.reply.now c.requires)
