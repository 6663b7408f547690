use Rattle.std.proofs.Common.{◌≡◌, ◌∙◌, ℕ, ◌<◌, ◌≤◌, List, ◌++◌, length, take, drop, sym, ap, subst, arith}
use Rattle.std.specs.Prelude.{IfOk, Result, Ok, Err}
use Rattle.cv_base.specs.declared.object.Object.{Object}
use Rattle.cv_base.specs.declared.token.Token.{Token}
use Rattle.cv_http.specs.declared.outgoing.Outgoing.{Outgoing}
use Rattle.cv_keys.specs.declared.key.Key.{Key}
use Rattle.cv_publisher.specs.Packing.{AreSendable, IsFront, objects_at}
use Rattle.cv_publisher.specs.Requests.{SendsFront, payload_request}
use Rattle.cv_publisher.specs.declared.plan.Plan.{Plan}
use Rattle.cv_publisher.proofs.Objects.{count_at, sendable_take}
use Rattle.cv_publisher.proofs.requests.payload_request.Goals as goal

-- a pack of some first objects is sent
sends : {E : Type 0} (keys : List Key) (plan : Plan) (token : Token) (all : List Object) (left : List ℕ) (n : ℕ) (r : Result Outgoing E) → AreSendable all left → n ≤ length left → 0 < n
    → IsFront (objects_at all left) (objects_at all (take n left)) (objects_at all (drop n left))
    → IfOk r (λ request. request ≡ payload_request keys plan token (objects_at all (take n left))) → IfOk r (SendsFront keys plan token (objects_at all left))
sends keys plan token all left n (Ok request) are within some front is = record {
  pack = objects_at all (take n left);
  rest = objects_at all (drop n left);
  front = front;
  some = λ none.
      let count : length (objects_at all (take n left)) ≡ n = count_at all left n are within in
      let empty : length (objects_at all (take n left)) ≡ 0 = ap length none in
      omega arith;
  is = is;
}
sends keys plan token all left n (Err lack) are within some front is = tt

pub filled-requires : goal.filled-requires
filled-requires c =
    subst (AreSendable (c.objects-contents.result.now ++ c.args.catalogues.now)) (sym c.split_at.ensures.front)
    (sendable_take (c.objects-contents.result.now ++ c.args.catalogues.now) c.front_of-count.result c.args.left.now
    (subst (λ (os : List Object). AreSendable (os ++ c.args.catalogues.now) c.args.left.now) (sym c.objects-contents.ensures.value) c.requires.sendable))

pub returns : goal.returns
returns c =
    let all = c.objects-contents.result.now ++ c.args.catalogues.now in
    let n = c.front_of-count.result in
    let whole : all ≡ c.args.plan.now.changes.objects ++ c.args.catalogues.now = ap (λ (os : List Object). os ++ c.args.catalogues.now) c.objects-contents.ensures.value in
    let are : AreSendable all c.args.left.now = subst (λ (os : List Object). AreSendable os c.args.left.now) (sym whole) c.requires.sendable in
    let pack = c.in_ok-pack.ensures ∙ ap (objects_at all) c.split_at.ensures.front in
    subst (λ (os : List Object). IfOk c.pack_request.result (SendsFront c.args.keys.now c.args.plan.now c.args.token (objects_at os c.args.left.now))) whole
    (sends c.args.keys.now c.args.plan.now c.args.token all c.args.left.now n c.pack_request.result are c.front_of-count.ensures.within (c.front_of-count.ensures.some c.requires.some) c.front_of-count.ensures.front
    (subst (λ (os : List Object). IfOk c.pack_request.result (λ request. request ≡ payload_request c.args.keys.now c.args.plan.now c.args.token os)) pack c.pack_request.ensures))
