mod LentLaws
mod CallLaws
