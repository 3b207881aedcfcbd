mod PileLaws
mod MachineLaws
mod ScriptLaws
mod LineLaws
