-- The codes of the code, by the numbers of the definitions; `proofs/Messages.antt` says that they are `message_of`'s.
use Rattle.std.specs.Prelude.{ℕ, Bool, true, false, eqb}
use Rattle.layouts.specs.Primitive.{pick}
use Rattle.layouts.specs.Stderr as Number
use Rattle.layouts.specs.Stderr.{Message, no_code, terminal, goes, message_of}
use Rattle.codes.specs.declared.StderrCode.{StderrCode}
use Rattle.codes.specs.declared.StderrCode.TheVariants.{Next, Read, Write, Last, Error, StartActivity, StopActivity, Result}
use Rattle.std.specs.Prelude.{Option, Some, None}

abbrev pub code_number : StderrCode → ℕ
code_number Next = Number.Next
code_number Read = Number.Read
code_number Write = Number.Write
code_number Last = Number.Last
code_number Error = Number.Error
code_number StartActivity = Number.StartActivity
code_number StopActivity = Number.StopActivity
code_number Result = Number.Result#

unfoldable pub code_of : ℕ → Option StderrCode
code_of v =
    pick (eqb v Number.Next) (Some Next)
    (pick (eqb v Number.Read) (Some Read)
    (pick (eqb v Number.Write) (Some Write)
    (pick (eqb v Number.Last) (Some Last)
    (pick (eqb v Number.Error) (Some Error)
    (pick (eqb v Number.StartActivity) (Some StartActivity)
    (pick (eqb v Number.StopActivity) (Some StopActivity)
    (pick (eqb v Number.Result#) (Some Result) None)))))))

-- does the loop end at such a message?
abbrev pub ends : Message → Bool
ends no_code = false
ends terminal = true
ends (goes gs) = false

unfoldable pub is_terminal : StderrCode → Bool
is_terminal c = ends (message_of (code_number c))
