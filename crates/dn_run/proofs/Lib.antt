mod AnswerLaws
mod CallLaws
mod RunLaws
mod StormLaws
