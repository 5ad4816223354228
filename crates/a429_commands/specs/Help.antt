-- What `a429 --help` writes (profile).
use Rattle.std.specs.Prelude.{◌≡◌, ℕ, List, ◌++◌, codes}
use Rattle.a429_commands.specs.Ends.{Promise, of_text}

-- the commands with their words and what they do, a line for each
abbrev pub help_text : List ℕ
help_text =
    codes "a429 COMMAND WORD..\n"
    ++ codes "  version: prints the version of the program\n"
    ++ codes "  word HEX: shows a word\n"
    ++ codes "  labels PROFILE: lists the label table of a profile\n"
    ++ codes "  show PROFILE REC: shows each word of a recording with its value\n"
    ++ codes "  forms PROFILE REC: says what each word is to the file transfer\n"
    ++ codes "  survey PROFILE REC: counts what a recording of any length has\n"
    ++ codes "  trace PROFILE REC: says what the sink is doing after each word of the transfer\n"
    ++ codes "  blocks PROFILE REC: lists the attempts to send a block in a recording of any length\n"
    ++ codes "  sink PROFILE REC: judges the sink of a recording of any length by itself\n"
    ++ codes "  history PROFILE REC DIR: puts a recording of any length in pieces into DIR\n"
    ++ codes "  keep PROFILE REC: writes the entries of a recording of any length whose words have the label of the transfer\n"
    ++ codes "  cut PROFILE REC DIR [MOST]: writes the parts of a recording of any length into DIR\n"
    ++ codes "  side PROFILE REC LINE OUT [ANSWER]: writes the words of one direction into OUT\n"
    ++ codes "  import MAP EXPORT OUT: makes a recording of what another program exported\n"
    ++ codes "  make PROFILE FILE..: writes the recording of a transfer of files in which nothing is lost\n"
    ++ codes "  pack REC: writes a recording in binary\n"
    ++ codes "  decide PROFILE REC CERT: finds out whether files crossed\n"
    ++ codes "  why PROFILE REC: prints the verdict of decide\n"
    ++ codes "  check PROFILE REC CERT: does the same as decide by a fixed rule alone\n"
    ++ codes "  verify PROFILE REC CERT: checks a certificate against a recording\n"
    ++ codes "  series PROFILE DIR: checks the certificates of a recording in parts\n"
    ++ codes "  extract PROFILE REC CERT DIR: checks a certificate and writes each file that crossed into DIR\n"
    ++ codes "  units PROFILE REC CERT: checks a certificate and lists the link data units that it loads\n"
    ++ codes "  picture PROFILE REC CERT FROM TO: draws what happened at the entries FROM to TO\n"
    ++ codes "  upgrade CERT OUT: writes a certificate of version 1 to OUT as one of version 2\n"
    ++ codes "man a429 says more.\n"

abbrev pub IsHelpText : List ℕ → Type 0
IsHelpText text = text ≡ help_text

abbrev pub says_help : ℕ → List ℕ → Type 0
says_help status text = (status ≡ 0) × IsHelpText text

-- it is written, with status 0, and there is no other fault than the output's
abbrev pub of_help : Promise
of_help = of_text says_help IsHelpText ⊥
