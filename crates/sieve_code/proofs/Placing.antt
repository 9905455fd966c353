-- Targets as places in all of the code.
use Rattle.std.proofs.Common.{◌≡◌, ℕ, ◌-◌, List, [], ◌∷◌, length, map, refl, sym, ap, ◌∙◌}
use Rattle.std.proofs.lemmas.List.{length-map}
use Rattle.sieve_script.specs.Script.{Commands}
use Rattle.sieve_code.specs.Choice.{Tail, code_of, placed, tail_of}
use Rattle.sieve_code.specs.Operation.{targeting}
use Rattle.sieve_code.specs.Pool.{Pool}
use Rattle.sieve_code.specs.declared.operation.PackedOperation.{PackedOperation}
use Rattle.sieve_code.specs.view.Operation.{op_in, ops_in, placed_in}

places_seen : (count : ℕ) (pool : Pool) (ops : List PackedOperation) → map (placed_in count pool) ops ≡ map (targeting (λ left. count - left)) (map (op_in pool) ops)
places_seen count pool [] = refl
places_seen count pool (op ∷ ops) = ap (λ xs. placed_in count pool op ∷ xs) (places_seen count pool ops)

-- the operations that the compiler makes of a script's tail are the script's code
pub code_made : (script : Commands) (pool : Pool) (ops : List PackedOperation) (tail : Tail) → map (op_in pool) ops ≡ tail → tail ≡ tail_of script → ops_in pool ops ≡ code_of script
unfolding placed
code_made script pool ops tail seen all =
    places_seen (length ops) pool ops
    ∙ ap (λ n. map (targeting (λ l. n - l)) (map (op_in pool) ops)) (sym (length-map ops (op_in pool)))
    ∙ ap placed (seen ∙ all)
