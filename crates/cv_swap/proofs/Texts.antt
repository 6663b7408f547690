-- The manifest that comes while a repository is made is one text.
use Rattle.std.proofs.Common.{◌≡◌, ℕ, List, sym, subst, ◌∙◌}
use Rattle.std.specs.declared.option.Option.{Option}
use Rattle.std.specs.declared.option.Option.TheVariants.{Some}
use Rattle.std.specs.declared.result.Result.{Result}
use Rattle.std.specs.declared.result.Result.TheVariants.{Ok, Err}
use Rattle.cv_base.specs.Told.{WhereTold}
use Rattle.cv_base.specs.declared.object.Object.{Object}
use Rattle.cv_vault.specs.Names.{Name, on_way}
use Rattle.cv_vault.specs.Disk.{Disk, File, Files, ImageOf}
use Rattle.cv_vault.specs.Moments.{OnlyReads}
use Rattle.cv_vault.specs.Walks.{Gains, Within}
use Rattle.cv_vault.proofs.Laws.{bind, looser, leaves_more, gains_then, gains_more, within_then, within_more, quiet_walks, quiet_same}
use Rattle.cv_objects.specs.declared.store_fault.StoreFault.{StoreFault}
use Rattle.cv_objects.specs.declared.store_fault.StoreFault.TheVariants.{Collision, Failed, Damaged, NoMemory}
use Rattle.cv_swap.specs.Publishing.{BringsFirst}
use Rattle.cv_swap.specs.PublishingInner.{BringsAll, WhileFirst, FirstLeaves, Inited, Inits, comes_before, comes_last, before_head, with_head}
use Rattle.cv_swap.specs.Init.{OnlyText, WritesHead}
use Rattle.cv_swap.proofs.Begins.{not_first}

-- what comes before the head has another name
before_text : (d : Disk) (batch : List Object) (text : List ℕ) (n : Name) (f : File) → BringsFirst d batch n f → OnlyText text n f
before_text d batch text n f b e = absurd (not_first d batch f (subst (λ (x : Name). BringsFirst d batch x f) e b))

all_text : (d : Disk) (batch : List Object) (text : List ℕ) (n : Name) (f : File) → BringsAll d batch text n f → OnlyText text n f
all_text d batch text n f (comes_before b) = before_text d batch text n f b
all_text d batch text n f (comes_last c) = λ e. c.1

gains_text : (d : Disk) (batch : List Object) (text : List ℕ) (r : Result (Unit {0}) StoreFault) (d' : Disk) → Inited d batch text r d' → Gains on_way (OnlyText text) d d'
gains_text d batch text (Ok x) d' h = gains_then (gains_more (before_text d batch text) h.gains) (gains_more (λ n f c e. c.1) h.comes)
gains_text d batch text (Err (Collision id)) d' h = gains_more (λ n f b. absurd b) h.same
gains_text d batch text (Err Failed) d' h = gains_more (all_text d batch text) h
gains_text d batch text (Err (Damaged id found)) d' h = gains_more (λ n f b. absurd b) h.same
gains_text d batch text (Err NoMemory) d' h = gains_more (before_text d batch text) h

leaves_text : (d : Disk) (batch : List Object) (text : List ℕ) (f : Files) → WhileFirst d batch text f → Within on_way (OnlyText text) d f
leaves_text d batch text f (before_head within) = within_more (before_text d batch text) f within
leaves_text d batch text f (with_head built are gains within) = within_then (gains_more (before_text d batch text) gains) f (within_more (λ n g c e. c.1) f within)

answer_text : (d : Disk) (batch : List Object) (text : List ℕ) (r : Result (Unit {0}) StoreFault) (f : Files) → FirstLeaves d batch text r f → Within on_way (OnlyText text) d f
answer_text d batch text (Ok x) f w = leaves_text d batch text f w
answer_text d batch text (Err (Collision id)) f w = within_more (λ n g b. absurd b) f w
answer_text d batch text (Err Failed) f w = leaves_text d batch text f w
answer_text d batch text (Err (Damaged id found)) f w = within_more (λ n g b. absurd b) f w
answer_text d batch text (Err NoMemory) f w = within_more (before_text d batch text) f w

module _ {V : Type 0} {disk : V → Option Disk} {count : V → ℕ} {left : V → ℕ → Files → Type 0} {d : Disk} {v v1 : V}
    (only : (f : Files) → left v (count v) f → ImageOf (disk v) f) (told : disk v ≡ Some d) (reads : OnlyReads disk count left v v1) where
  -- nothing was done but reads
  pub text_none : (text : List ℕ) → WritesHead disk count left text d v v1
  text_none text = looser (quiet_walks only told reads) (λ n f b. absurd b) (λ d' g e. tt)

  pub text_writes : {v2 : V} (batch : List Object) (text manifest : List ℕ) (r : Result (Unit {0}) StoreFault) → manifest ≡ text → WhereTold (disk v1) (λ d1. Inits disk count left d1 batch manifest r v1 v2) → WritesHead disk count left text d v v2
  text_writes {v2} batch text manifest r same h =
      let u : Inits disk count left d batch manifest r v1 v2 = h d (quiet_same reads ∙ told) in
      subst (λ (x : List ℕ). WritesHead disk count left x d v v2) same
      (bind (quiet_walks only told reads) (λ n f b. absurd b) (λ d1 told1 g e. subst (λ (x : Disk). WritesHead disk count left manifest x v1 v2) (sym e) (record {
        end = u.end;
        told = u.told;
        gains = gains_text d batch manifest r u.end u.is;
        leaves = leaves_more u.leaves (λ f w. answer_text d batch manifest r f w);
        is = tt;
      })))

-- the same, of the vault that was handed in and of the one that is handed back
pub text_done : {V : Type 0} {disk : V → Option Disk} {count : V → ℕ} {left : V → ℕ → Files → Type 0} (text : List ℕ) (given own made back : V) → own ≡ given → back ≡ made
    → WhereTold (disk own) (λ d. WritesHead disk count left text d own made) → WhereTold (disk given) (λ d. WritesHead disk count left text d given back)
text_done {V} {disk} {count} {left} text given own made back a b h =
    subst (λ (x : V). WhereTold (disk x) (λ d. WritesHead disk count left text d x back)) a
    (subst (λ (x : V). WhereTold (disk own) (λ d. WritesHead disk count left text d own x)) (sym b) h)
