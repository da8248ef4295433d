-- The numbers of the codes of faulty lines.
use Rattle.std.specs.Prelude.{ℕ}
use Rattle.cf_setup.specs.declared.fault.Code.{Code}
use Rattle.cf_setup.specs.declared.fault.Code.TheVariants.{NotText, BadStatement, BadForm, BadSchema, NameTaken, NoSuchName, BadNumber, BadAttribute, TooMany, Syntax, UnknownName, BadOperator, ValueRange, TooLong}

-- the number of a code, from 1 to 14
abbrev pub code_number : Code → ℕ
code_number NotText = 1
code_number BadStatement = 2
code_number BadForm = 3
code_number BadSchema = 4
code_number NameTaken = 5
code_number NoSuchName = 6
code_number BadNumber = 7
code_number BadAttribute = 8
code_number TooMany = 9
code_number Syntax = 10
code_number UnknownName = 11
code_number BadOperator = 12
code_number ValueRange = 13
code_number TooLong = 14
