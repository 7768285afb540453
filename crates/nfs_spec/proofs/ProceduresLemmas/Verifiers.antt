-- What was written and committed bears the verifier of its boot.
use Rattle.std.proofs.Common.{◌≡◌, ℕ, sym, subst, refl, Bool, true, false, cond, List, Option, Some}
use Rattle.std.proofs.Common.{None}
use Rattle.std.proofs.Common.{Result, Ok, Err}
use Rattle.nfs_types.specs.Verifier.{boot_verifier}
use Rattle.nfs_types.specs.declared.attributes.WeakCacheData.{WeakCacheData}
use Rattle.nfs_types.specs.declared.call.Stability.{Stability}
use Rattle.nfs_types.specs.declared.ctx.Ctx.{Ctx}
use Rattle.nfs_types.specs.declared.reply.Written.{Written}
use Rattle.nfs_types.specs.declared.status.Status.{Status}
use Rattle.nfs_types.specs.declared.status.Status.TheVariants as status
use Rattle.nfs_types.specs.declared.verifier.Verifier.{Verifier}
use Rattle.nfs_spec.specs.Model.Find.{find_file}
use Rattle.nfs_spec.specs.Model.Node.{Node}
use Rattle.nfs_spec.specs.Model.Tree.{Tree, with_node}
use Rattle.nfs_spec.specs.Procedures.Changes.{if_space, lacks_space}
use Rattle.nfs_spec.specs.Procedures.Commit.{CommitStep, commit, commit_refusal}
use Rattle.nfs_spec.specs.Procedures.FirstTests.{found_then, unless}
use Rattle.nfs_spec.specs.Procedures.StepForms.{Effect, answer_of}
use Rattle.nfs_spec.specs.Procedures.Write.{WriteStep, write, write_refusal, written, written_reply}

-- what an outcome tells, if it is no refusal, passes
IfAnswered : {A : Type 0} → (A → Type 0) → Result A Status → Type 0
IfAnswered P (Ok answer) = P answer
IfAnswered P (Err status) = Unit {0}

by_space : {A : Type 0} (P : A → Type 0) (b : Bool) (effect : Effect A) → P effect.answer
    → IfAnswered P (answer_of (cond b (Err status.NoSpc) (Ok effect)))
unfolding IfAnswered
by_space P true effect p = tt
by_space P false effect p = p

by_unless : {A : Type 0} (P : A → Type 0) (test : Option Status) (result : Result (Effect A) Status)
    → IfAnswered P (answer_of result) → IfAnswered P (answer_of (unless test result))
unfolding IfAnswered
by_unless P None result p = p
by_unless P (Some status) result p = tt

by_found : {A : Type 0} (P : A → Type 0) (found : Result (ℕ × Node) Status)
    (act : ℕ → Node → Result (Effect A) Status)
    → ((number : ℕ) (node : Node) → IfAnswered P (answer_of (act number node)))
    → IfAnswered P (answer_of (found_then found act))
unfolding IfAnswered
by_found P (Ok found) act each = each found.0 found.1
by_found P (Err status) act each = tt

unfolded : {A : Type 0} (P : A → Type 0) (answer : A) → IfAnswered P (Ok answer) → P answer
unfolding IfAnswered
unfolded P answer p = p

folded : {A : Type 0} (P : A → Type 0) (answer : A) → P answer → IfAnswered P (Ok answer)
unfolding IfAnswered
folded P answer p = p

pub of_write : (tree next : Tree) (ctx : Ctx) (file : List ℕ) (offset count : ℕ) (stability : Stability)
    (text : List ℕ) (reply : Written) (file_attributes : WeakCacheData)
    → WriteStep tree ctx file offset count stability text (Ok reply) file_attributes next
    → reply.verifier ≡ boot_verifier ctx.boot
of_write tree next ctx file offset count stability text reply file_attributes s =
    let P : Written → Type 0 = λ w. w.verifier ≡ boot_verifier ctx.boot in
    unfolded P reply
    (subst (IfAnswered P) (sym s.answered)
    (by_found P (find_file tree file) (write tree ctx offset count stability text)
    (λ number node.
    let effect : Effect Written = record {
      answer = written_reply ctx count stability;
      next = with_node tree number (written ctx.moment offset text node);
    } in
    by_unless P (write_refusal ctx.credential offset count text node) (if_space tree effect)
    (by_space P (lacks_space tree effect.next) effect refl))))

pub of_commit : (tree next : Tree) (ctx : Ctx) (file : List ℕ) (verifier : Verifier) (file_attributes : WeakCacheData)
    → CommitStep tree ctx file (Ok verifier) file_attributes next → verifier ≡ boot_verifier ctx.boot
of_commit tree next ctx file verifier file_attributes s =
    let P : Verifier → Type 0 = λ v. v ≡ boot_verifier ctx.boot in
    let effect : Effect Verifier = record { answer = boot_verifier ctx.boot; next = tree } in
    unfolded P verifier
    (subst (IfAnswered P) (sym s.answered)
    (by_found P (find_file tree file) (commit tree ctx)
    (λ number node. by_unless P (commit_refusal ctx.credential node) (Ok effect)
    (folded P (boot_verifier ctx.boot) refl))))
