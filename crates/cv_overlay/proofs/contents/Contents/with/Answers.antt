use Rattle.std.proofs.Common.{List, ap, ◌∙◌, sym, rules}
use Rattle.cv_base.specs.declared.object.Object.{Object}
use Rattle.cv_overlay.specs.FoundInner.{has_hash, with_content}
use Rattle.cv_overlay.proofs.Kept.{content_more, known_more}
use Rattle.cv_overlay.proofs.contents.Contents.with.Goals as goal

pub invariant_of-result-2 : goal.invariant_of-result-2
invariant_of-result-2 c = λ hash.
    known_more c.self.inside.objects.items _ c.self.inside.known c.insert.new.self c.self.invariant c.in_ok-insert.ensures.updates hash
    ∙ ap (λ (os : List Object). has_hash os hash) (sym c.in_ok-push.ensures.items)

pub returns : goal.returns
returns c =
    c.in_ok-push.ensures.items
    ∙ content_more c.self.inside.objects.items c.args.object c.self.inside.known c.in_ok-insert.field-0 c.requires c.self.invariant c.in_ok-insert.ensures.added (search (rules, c.if-not-branch.false))
    ∙ ap (λ (os : List Object). with_content os c.args.object.bytes) c.self.view_is
