-- The models of the program's variables.
use Rattle.std.specs.Prelude.{ℕ, List}
use Rattle.sieve_variables.specs.Variable.{Variable, local_variable, global_variable}
use Rattle.sieve_variables.specs.declared.variable.VariableScope as scopes
use Rattle.sieve_variables.specs.declared.variable.VariableScope.TheVariants as scope
use Rattle.sieve_variables.specs.declared.variable.VariableRef as variable_refs
use Rattle.sieve_variables.specs.declared.variable.VariableRef.TheVariants as variable_ref

-- the variable of a scope and a name
abbrev pub variable_of : scopes.VariableScope → List ℕ → Variable
variable_of scope.Local name = local_variable name
variable_of scope.Global name = global_variable name

abbrev pub variable_ref_as : variable_refs.VariableRef → Variable
variable_ref_as (variable_ref.Local name) = local_variable name.now
variable_ref_as (variable_ref.Global name) = global_variable name.now
