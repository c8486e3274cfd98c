-- `Chars` and `Meaning` prove that `specs/Prefix.antt` computes what `specs/Rfc3629.antt` says; `CodePoints` that section 4 of the RFC is section 3;
-- `Word` is eight octets in a word; `Steps` is how code goes over a list; `States` that the machine of `text_states` takes only text; `Unique`: each contract has one answer.
pub mod Chars
pub mod Meaning
pub mod CodePoints
pub mod Word
pub mod Steps
pub mod States
pub mod Unique
