-- The words of the errors, as a report prints them.
use Rattle.std.specs.Prelude.{ℕ, List, codes}
use Rattle.sieve_delivery.specs.declared.error.ErrorKind.{ErrorKind}
use Rattle.sieve_delivery.specs.declared.error.ErrorKind.TheVariants.{MissingScript, InvalidScript, RecursiveInclude, IncludeDepth, IncludeCount, BadAddress, TooManyActions, TooManyGlobals, BadMailbox, SecondVacation, ConflictingActions}

abbrev pub error_word : ErrorKind → List ℕ
error_word MissingScript = codes "missing-script"
error_word InvalidScript = codes "invalid-script"
error_word RecursiveInclude = codes "recursive-include"
error_word IncludeDepth = codes "include-depth"
error_word IncludeCount = codes "include-count"
error_word BadAddress = codes "bad-address"
error_word TooManyActions = codes "too-many-actions"
error_word TooManyGlobals = codes "too-many-globals"
error_word BadMailbox = codes "bad-mailbox"
error_word SecondVacation = codes "second-vacation"
error_word ConflictingActions = codes "conflicting-actions"
