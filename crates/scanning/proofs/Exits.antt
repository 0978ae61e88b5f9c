-- Where a `?` leaves a reader, the place that it was given goes on as it is.
use mathlib.Core.Path.{◌≡◌, ap, ◌∙◌}
use Rattle.std.specs.Prelude.{Result, Err}
use Rattle.std.specs.Result.{IsErrAnd}
use Rattle.std.proofs.lemmas.Result.{err_from_is_err_and}
use Rattle.spelling.specs.declared.Stopped.{Stopped}

pub goes_on : {T : Type 0} {r : Result T Stopped} {given : Stopped} → IsErrAnd r (λ e. e ≡ given) → r ≡ Err given
goes_on {T} {r} is =
    let (e, here, same) = err_from_is_err_and r is in
    here ∙ ap Err same
