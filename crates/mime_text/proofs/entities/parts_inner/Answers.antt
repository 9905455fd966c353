use Rattle.std.proofs.Common.{Bor, List, ℕ, Option, option_map, sym, subst}
use Rattle.std.proofs.lemmas.Result.{IfOk-weaker}
use Rattle.mime_text.specs.Entities.{multipart}
use Rattle.mime_text.specs.view.Entities.{IsInner}
use Rattle.mime_text.proofs.entities.parts_inner.Goals as goal

pub returns-in-Some : goal.returns-in-Some
returns-in-Some c =
    IfOk-weaker c.cut_inner.result _ _
    (λ inner each encoding. subst (λ (b : Option (Bor (List ℕ))). IsInner (multipart c.args.is_digest (option_map (λ (x : Bor (List ℕ)). x.now) b)) encoding c.args.content.now inner) (sym c.in-Some.is) (each encoding))
    c.cut_inner.ensures
